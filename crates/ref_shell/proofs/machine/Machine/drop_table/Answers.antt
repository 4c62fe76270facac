use Rattle.std.proofs.Common.{refl, ap}
use Rattle.shell_lang.specs.declared.command.Command.TheVariants as command
use Rattle.shell_lang.specs.declared.reply.Reply.TheVariants as reply
use Rattle.book_model.specs.Book.{without_table}
use Rattle.shell_laws.proofs.CommandLemmas.{any_choice}
use Rattle.ref_shell.specs.Machine.{state_of}
use Rattle.ref_shell.proofs.Rests.{drop_rest}
use Rattle.ref_shell.proofs.Parts.{change_step}
use Rattle.ref_shell.proofs.machine.Machine.drop_table.Goals as goal

pub returns-in-Some-clause-ok : goal.returns-in-Some-clause-ok
returns-in-Some-clause-ok g c =
    let s = state_of g.S.Shelf.book c.args.self.now in
    let mid = state_of g.S.Shelf.book c.refused_writing_of.new.self in
    any_choice s c.args.who (command.Drop c.args.table.now) c.in-Some.reply mid (λ pick. c.in-Some.ensures.through (drop_rest pick s c.args.who c.args.table.now.name))

pub returns-clause-ok : goal.returns-clause-ok
returns-clause-ok g c =
    let s = state_of g.S.Shelf.book c.args.self.now in
    let mid = state_of g.S.Shelf.book c.refused_writing_of.new.self in
    let next = state_of g.S.Shelf.book c.change.new.self in
    let answer = c.change.result in
    change_step s mid c.args.who (command.Drop c.args.table.now) (λ root book. without_table book c.args.table.now.name) (λ book. reply.Done) (g.S.Shelf.book c.seen.result.now) (g.S.Shelf.book c.in_ok-book.book) reply.Done answer next
    (ap (state_of g.S.Shelf.book) c.in_default.ensures.goes.0) c.seen.ensures c.in_ok-book.ensures refl c.change.ensures.allowed (λ pick sized. sized)
    (λ pick done. c.in_default.ensures.through (drop_rest pick s c.args.who c.args.table.now.name) answer next done)
