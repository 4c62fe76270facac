use Rattle.std.proofs.Common.{◌≡◌, refl, sym, ap, ◌∙◌, true, false, not}
use Rattle.vfs_model.specs.declared.level.Level.TheVariants.{Reserved}
use Rattle.shell_lang.specs.declared.command.Command.TheVariants as command
use Rattle.shell_lang.specs.declared.reply.Reply.TheVariants as reply
use Rattle.book_model.specs.Book.{Book, has_row, without_row}
use Rattle.shell_model.specs.State.{State, reached, seen}
use Rattle.shell_laws.proofs.CommandLemmas.{any_choice}
use Rattle.ref_shell.specs.Machine.{state_of}
use Rattle.ref_shell.proofs.Rests.{del_rest, del_row}
use Rattle.ref_shell.proofs.Parts.{is_due, not_due, change_step, late_refusal}
use Rattle.ref_shell.proofs.machine.Machine.del.Goals as goal

pub returns-in-Some-clause-ok : goal.returns-in-Some-clause-ok
returns-in-Some-clause-ok g c =
    let s = state_of g.S.Shelf.book c.args.self.now in
    let mid = state_of g.S.Shelf.book c.refused_writing_of.new.self in
    any_choice s c.args.who (command.Del c.args.table.now c.args.rowid.now) c.in-Some.reply mid (λ pick. c.in-Some.ensures.through (del_rest pick s c.args.who c.args.table.now.name c.args.rowid.now))

pub returns-then-not-has_row-clause-ok : goal.returns-then-not-has_row-clause-ok
returns-then-not-has_row-clause-ok g c =
    let s = state_of g.S.Shelf.book c.args.self.now in
    let mid = state_of g.S.Shelf.book c.refused_writing_of.new.self in
    let same : mid ≡ s = ap (state_of g.S.Shelf.book) c.in_default.ensures.goes.0 in
    let after = reached s c.args.who Reserved in
    let there = has_row (seen s c.args.who) c.args.table.now.name c.args.rowid.now in
    let view = c.seen.ensures ∙ ap (λ (m : State). seen m c.args.who) same in
    let is : there ≡ false = sym (ap (λ (book : Book). has_row book c.args.table.now.name c.args.rowid.now) view) ∙ (sym c.has_row.ensures ∙ c.if-not-has_row.true) in
    late_refusal s mid c.args.who (command.Del c.args.table.now c.args.rowid.now) reply.Nothing (state_of g.S.Shelf.book c.reach.new.self) same c.reach.ensures
    (λ pick. c.in_default.ensures.through (del_rest pick s c.args.who c.args.table.now.name c.args.rowid.now) reply.Nothing after
    (is_due (not there) reply.Nothing after (del_row pick s c.args.who c.args.table.now.name c.args.rowid.now) (ap not is)))

pub returns-clause-ok : goal.returns-clause-ok
returns-clause-ok g c =
    let s = state_of g.S.Shelf.book c.args.self.now in
    let mid = state_of g.S.Shelf.book c.refused_writing_of.new.self in
    let same : mid ≡ s = ap (state_of g.S.Shelf.book) c.in_default.ensures.goes.0 in
    let next = state_of g.S.Shelf.book c.change.new.self in
    let answer = c.change.result in
    let after = reached s c.args.who Reserved in
    let there = has_row (seen s c.args.who) c.args.table.now.name c.args.rowid.now in
    let view = c.seen.ensures ∙ ap (λ (m : State). seen m c.args.who) same in
    let is : there ≡ true = sym (ap (λ (book : Book). has_row book c.args.table.now.name c.args.rowid.now) view) ∙ (sym c.has_row.ensures ∙ c.if-not-has_row.false) in
    change_step s mid c.args.who (command.Del c.args.table.now c.args.rowid.now) (λ root book. without_row book c.args.table.now.name c.args.rowid.now) (λ book. reply.Done)
    (g.S.Shelf.book c.seen-2.result.now) (g.S.Shelf.book c.in_ok-book.book) reply.Done answer next
    same c.seen-2.ensures c.in_ok-book.ensures refl c.change.ensures.allowed (λ pick sized. sized)
    (λ pick done. c.in_default.ensures.through (del_rest pick s c.args.who c.args.table.now.name c.args.rowid.now) answer next
    (not_due (not there) reply.Nothing after (del_row pick s c.args.who c.args.table.now.name c.args.rowid.now) answer next (ap not is) done))
