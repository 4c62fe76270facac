use Rattle.std.proofs.Common.{refl}
use Rattle.shell_lang.specs.declared.command.Command.TheVariants as command
use Rattle.shell_lang.specs.declared.reply.Reply.{Reply}
use Rattle.shell_lang.specs.declared.reply.Reply.TheVariants as reply
use Rattle.book_model.specs.Book.{Book}
use Rattle.shell_model.specs.Cases.{tables_listed}
use Rattle.shell_laws.proofs.CommandLemmas.{any_choice}
use Rattle.ref_shell.specs.Machine.{state_of}
use Rattle.ref_shell.proofs.Rests.{tables_rest}
use Rattle.ref_shell.proofs.Parts.{read_step}
use Rattle.ref_shell.proofs.machine.Machine.tables.Goals as goal

pub returns-in-Some-clause-ok : goal.returns-in-Some-clause-ok
returns-in-Some-clause-ok g c =
    let s = state_of g.S.Shelf.book c.args.self.now in
    let mid = s in
    any_choice s c.args.who (command.Tables) c.in-Some.reply mid (λ pick. c.in-Some.ensures.through (tables_rest s c.args.who))

pub returns-clause-ok : goal.returns-clause-ok
returns-clause-ok g c =
    let s = state_of g.S.Shelf.book c.args.self.now in
    let mid = s in
    let next = state_of g.S.Shelf.book c.reach.new.self in
    let say : Book → Reply = λ book. reply.TableLines (tables_listed book) in
    read_step s mid c.args.who (command.Tables) say (g.S.Shelf.book c.seen.result.now) c.in_ok-reply.reply next
    refl c.seen.ensures c.in_ok-reply.ensures c.reach.ensures (λ pick done. c.in_default.ensures.through (tables_rest s c.args.who) c.in_ok-reply.reply next done)
