use Rattle.std.proofs.Common.{ap}
use Rattle.std.specs.FinMap as map
use Rattle.shell_lang.specs.declared.command.Command.TheVariants as command
use Rattle.shell_lang.specs.declared.reply.Reply.{Reply}
use Rattle.shell_lang.specs.declared.reply.Reply.TheVariants as reply
use Rattle.book_model.specs.Book.{Book, table_at}
use Rattle.shell_laws.proofs.CommandLemmas.{any_choice}
use Rattle.ref_shell.specs.Machine.{state_of}
use Rattle.ref_shell.proofs.Rests.{count_rest}
use Rattle.ref_shell.proofs.Parts.{read_step}
use Rattle.ref_shell.proofs.machine.Machine.count.Goals as goal

pub returns-in-Some-clause-ok : goal.returns-in-Some-clause-ok
returns-in-Some-clause-ok g c =
    let s = state_of g.S.Shelf.book c.args.self.now in
    let mid = state_of g.S.Shelf.book c.refused_reading_of.new.self in
    any_choice s c.args.who (command.Count c.args.table.now) c.in-Some.reply mid (λ pick. c.in-Some.ensures.through (count_rest s c.args.who c.args.table.now.name))

pub returns-clause-ok : goal.returns-clause-ok
returns-clause-ok g c =
    let s = state_of g.S.Shelf.book c.args.self.now in
    let mid = state_of g.S.Shelf.book c.refused_reading_of.new.self in
    let next = state_of g.S.Shelf.book c.reach.new.self in
    let say : Book → Reply = λ book. reply.Count (map.len (table_at book c.args.table.now.name).rows) in
    read_step s mid c.args.who (command.Count c.args.table.now) say (g.S.Shelf.book c.seen.result.now) c.count-reply.result next
    (ap (state_of g.S.Shelf.book) c.in_default.ensures.goes.0) c.seen.ensures c.count-reply.ensures c.reach.ensures (λ pick done. c.in_default.ensures.through (count_rest s c.args.who c.args.table.now.name) c.count-reply.result next done)
