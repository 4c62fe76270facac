use Rattle.std.proofs.Common.{ap}
use Rattle.std.specs.FinMap as map
use Rattle.shell_lang.specs.declared.command.Command.TheVariants as command
use Rattle.shell_lang.specs.declared.reply.Reply.{Reply}
use Rattle.book_model.specs.Book.{Book, table_at}
use Rattle.shell_model.specs.Cases.{row_reply}
use Rattle.shell_laws.proofs.CommandLemmas.{any_choice}
use Rattle.ref_shell.specs.Machine.{state_of}
use Rattle.ref_shell.proofs.Rests.{get_rest}
use Rattle.ref_shell.proofs.Parts.{read_step}
use Rattle.ref_shell.proofs.machine.Machine.get.Goals as goal

pub returns-in-Some-clause-ok : goal.returns-in-Some-clause-ok
returns-in-Some-clause-ok g c =
    let s = state_of g.S.Shelf.book c.args.self.now in
    let mid = state_of g.S.Shelf.book c.refused_reading_of.new.self in
    any_choice s c.args.who (command.Get c.args.table.now c.args.rowid.now) c.in-Some.reply mid (λ pick. c.in-Some.ensures.through (get_rest s c.args.who c.args.table.now.name c.args.rowid.now))

pub returns-clause-ok : goal.returns-clause-ok
returns-clause-ok g c =
    let s = state_of g.S.Shelf.book c.args.self.now in
    let mid = state_of g.S.Shelf.book c.refused_reading_of.new.self in
    let next = state_of g.S.Shelf.book c.reach.new.self in
    let say : Book → Reply = λ book. row_reply c.args.rowid.now (map.get (table_at book c.args.table.now.name).rows c.args.rowid.now) in
    read_step s mid c.args.who (command.Get c.args.table.now c.args.rowid.now) say (g.S.Shelf.book c.seen.result.now) c.in_ok-reply.reply next
    (ap (state_of g.S.Shelf.book) c.in_default.ensures.goes.0) c.seen.ensures c.in_ok-reply.ensures c.reach.ensures (λ pick done. c.in_default.ensures.through (get_rest s c.args.who c.args.table.now.name c.args.rowid.now) c.in_ok-reply.reply next done)
