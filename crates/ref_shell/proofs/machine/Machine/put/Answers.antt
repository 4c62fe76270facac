use Rattle.std.proofs.Common.{◌≡◌, subst, ap, ◌∙◌}
use Rattle.vfs_model.specs.declared.level.Level.TheVariants.{Reserved}
use Rattle.shell_lang.specs.declared.command.Command.TheVariants as command
use Rattle.shell_lang.specs.declared.reply.Reply.{Reply}
use Rattle.book_model.specs.Book.{Book, has_row, with_row}
use Rattle.shell_model.specs.State.{State, reached, seen}
use Rattle.shell_model.specs.Cases.{Allows}
use Rattle.shell_laws.proofs.CommandLemmas.{any_choice}
use Rattle.ref_shell.specs.Machine.{state_of}
use Rattle.ref_shell.specs.Part.{put_values}
use Rattle.ref_shell.proofs.Rests.{put_rest, put_row}
use Rattle.ref_shell.proofs.Parts.{change_step, late_refusal, put_reply}
use Rattle.ref_shell.proofs.machine.Machine.put.Goals as goal

pub returns-in-Some-clause-ok : goal.returns-in-Some-clause-ok
returns-in-Some-clause-ok g c =
    let s = state_of g.S.Shelf.book c.args.self.now in
    let mid = state_of g.S.Shelf.book c.refused_writing_of.new.self in
    any_choice s c.args.who (command.Put c.args.table.now c.args.rowid.now c.args.values) c.in-Some.reply mid (λ pick. c.in-Some.ensures.through (put_rest pick s c.args.who c.args.table.now.name c.args.rowid.now c.args.values))

pub returns-in-Some-refused_values-clause-ok : goal.returns-in-Some-refused_values-clause-ok
returns-in-Some-refused_values-clause-ok g c =
    let s = state_of g.S.Shelf.book c.args.self.now in
    let mid = state_of g.S.Shelf.book c.refused_writing_of.new.self in
    let same : mid ≡ s = ap (state_of g.S.Shelf.book) c.in_default.ensures.goes.0 in
    let after = reached s c.args.who Reserved in
    let answer = c.in-Some-refused_values.reply in
    late_refusal s mid c.args.who (command.Put c.args.table.now c.args.rowid.now c.args.values) answer (state_of g.S.Shelf.book c.reach.new.self) same c.reach.ensures
    (λ pick. c.in_default.ensures.through (put_rest pick s c.args.who c.args.table.now.name c.args.rowid.now c.args.values) answer after
    (subst (λ (m : State). Allows (put_values after (seen m c.args.who) c.args.table.now.name c.args.values (put_row pick s c.args.who c.args.table.now.name c.args.rowid.now c.args.values)) answer after) same
    (c.in-Some-refused_values.ensures.through after (put_row pick s c.args.who c.args.table.now.name c.args.rowid.now c.args.values))))

pub returns-clause-ok : goal.returns-clause-ok
returns-clause-ok g c =
    let s = state_of g.S.Shelf.book c.args.self.now in
    let mid = state_of g.S.Shelf.book c.refused_writing_of.new.self in
    let same : mid ≡ s = ap (state_of g.S.Shelf.book) c.in_default.ensures.goes.0 in
    let next = state_of g.S.Shelf.book c.change.new.self in
    let answer = c.change.result in
    let after = reached s c.args.who Reserved in
    let say : Book → Reply = λ book. put_reply (has_row book c.args.table.now.name c.args.rowid.now) in
    change_step s mid c.args.who (command.Put c.args.table.now c.args.rowid.now c.args.values) (λ root book. with_row book c.args.table.now.name c.args.rowid.now c.args.values) say
    (g.S.Shelf.book c.seen-shelf.result.now) (g.S.Shelf.book c.in_ok-book.book) c.put_reply-said.result answer next
    same c.seen-shelf.ensures c.in_ok-book.ensures (c.put_reply-said.ensures ∙ ap put_reply c.has_row.ensures) c.change.ensures.allowed (λ pick sized. sized)
    (λ pick done. c.in_default.ensures.through (put_rest pick s c.args.who c.args.table.now.name c.args.rowid.now c.args.values) answer next
    (subst (λ (m : State). Allows (put_values after (seen m c.args.who) c.args.table.now.name c.args.values (put_row pick s c.args.who c.args.table.now.name c.args.rowid.now c.args.values)) answer next) same
    (c.in_default-refused_values.ensures.through after (put_row pick s c.args.who c.args.table.now.name c.args.rowid.now c.args.values) answer next done)))
