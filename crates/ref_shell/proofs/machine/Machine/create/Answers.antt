use Rattle.std.proofs.Common.{◌≡◌, refl, sym, ap, ◌∙◌, true, false}
use Rattle.vfs_model.specs.declared.level.Level.TheVariants.{Reserved}
use Rattle.shell_lang.specs.declared.command.Command.TheVariants as command
use Rattle.shell_lang.specs.declared.reply.Reply.TheVariants as reply
use Rattle.shell_lang.specs.declared.reply.ErrorWord.TheVariants as word
use Rattle.book_model.specs.Book.{Book, is_taken, with_table}
use Rattle.shell_model.specs.State.{reached, seen}
use Rattle.shell_laws.proofs.CommandLemmas.{any_choice}
use Rattle.ref_shell.specs.Machine.{state_of}
use Rattle.ref_shell.proofs.Rests.{create_rest, create_table}
use Rattle.ref_shell.proofs.Parts.{is_due, not_due, change_step, late_refusal}
use Rattle.ref_shell.proofs.machine.Machine.create.Goals as goal

pub returns-in-Some-clause-ok : goal.returns-in-Some-clause-ok
returns-in-Some-clause-ok g c =
    let s = state_of g.S.Shelf.book c.args.self.now in
    let mid = s in
    any_choice s c.args.who (command.Create c.args.table.now c.args.columns) c.in-Some.reply mid (λ pick. c.in-Some.ensures.through (create_rest pick s c.args.who c.args.table.now.name c.args.columns))

pub returns-then-is_taken-clause-ok : goal.returns-then-is_taken-clause-ok
returns-then-is_taken-clause-ok g c =
    let s = state_of g.S.Shelf.book c.args.self.now in
    let said = reply.Error word.Exists in
    let after = reached s c.args.who Reserved in
    let taken = is_taken (seen s c.args.who) c.args.table.now.name in
    let is : taken ≡ true = sym (ap (λ (book : Book). is_taken book c.args.table.now.name) c.seen.ensures) ∙ (sym c.is_taken.ensures ∙ c.if-is_taken.true) in
    late_refusal s s c.args.who (command.Create c.args.table.now c.args.columns) said (state_of g.S.Shelf.book c.reach.new.self) refl c.reach.ensures
    (λ pick. c.in_default.ensures.through (create_rest pick s c.args.who c.args.table.now.name c.args.columns) said after
    (is_due taken said after (create_table pick s c.args.who c.args.table.now.name c.args.columns) is))

pub returns-clause-ok : goal.returns-clause-ok
returns-clause-ok g c =
    let s = state_of g.S.Shelf.book c.args.self.now in
    let next = state_of g.S.Shelf.book c.change.new.self in
    let answer = c.change.result in
    let after = reached s c.args.who Reserved in
    let taken = is_taken (seen s c.args.who) c.args.table.now.name in
    let not : taken ≡ false = sym (ap (λ (book : Book). is_taken book c.args.table.now.name) c.seen.ensures) ∙ (sym c.is_taken.ensures ∙ c.if-is_taken.false) in
    change_step s s c.args.who (command.Create c.args.table.now c.args.columns) (λ root book. with_table book c.args.table.now.name c.args.columns root) (λ book. reply.Done)
    (g.S.Shelf.book c.seen-2.result.now) (g.S.Shelf.book c.in_ok-book.book) reply.Done answer next
    refl c.seen-2.ensures c.in_ok-book.ensures refl c.change.ensures.allowed (λ pick sized. sized)
    (λ pick done. c.in_default.ensures.through (create_rest pick s c.args.who c.args.table.now.name c.args.columns) answer next
    (not_due taken (reply.Error word.Exists) after (create_table pick s c.args.who c.args.table.now.name c.args.columns) answer next not done))
