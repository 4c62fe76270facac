use Rattle.std.proofs.Common.{◌↔◌, ℕ, IsTrue, sym, subst, refl, rules}
use Rattle.std.proofs.lemmas.Int.{to_z-of_z}
use Rattle.std.specs.Prelude.{FitsSigned}
use Rattle.std.specs.Int.{w64}
use Rattle.shell_lang.specs.declared.command.Command.{Command}
use Rattle.book_model.specs.Book.{without_table, with_row, without_row}
use Rattle.shell_laws.specs.Free.{changed}
use Rattle.ref_shell.specs.Shelf.{passes}
use Rattle.ref_shell.proofs.Passed.{told}
use Rattle.ref_shell.proofs.judge.passes_with.Goals as goal

pub returns-in-Drop : goal.returns-in-Drop
returns-in-Drop g c =
    let b = g.S.Shelf.book c.args.seen.now in
    subst (λ (asked : Command). IsTrue c.may_pass.result ↔ ((root : ℕ) × IsTrue (passes b (changed b root asked)))) (sym c.in-Drop.is)
    (told b (g.S.Shelf.book c.in_ok-after-in-Drop.after) (λ root. without_table b c.in-Drop.table.name) c.may_pass.result (λ r r'. refl) c.in_ok-after-in-Drop.ensures c.may_pass.ensures)

pub returns-in-Put : goal.returns-in-Put
returns-in-Put g c =
    let b = g.S.Shelf.book c.args.seen.now in
    let fits_rowid : FitsSigned w64 c.in-Put.rowid = search rules in
    subst (λ (asked : Command). IsTrue c.may_pass-in-Put.result ↔ ((root : ℕ) × IsTrue (passes b (changed b root asked)))) (sym c.in-Put.is)
    (told b (g.S.Shelf.book c.in_ok-after-in-Put.after) (λ root. with_row b c.in-Put.table.name c.in-Put.rowid c.in-Put.values) c.may_pass-in-Put.result (λ r r'. refl) (simp to_z-of_z at c.in_ok-after-in-Put.ensures) c.may_pass-in-Put.ensures)

pub returns-in-Del : goal.returns-in-Del
returns-in-Del g c =
    let b = g.S.Shelf.book c.args.seen.now in
    let fits_rowid : FitsSigned w64 c.in-Del.rowid = search rules in
    subst (λ (asked : Command). IsTrue c.may_pass-in-Del.result ↔ ((root : ℕ) × IsTrue (passes b (changed b root asked)))) (sym c.in-Del.is)
    (told b (g.S.Shelf.book c.in_ok-after-in-Del.after) (λ root. without_row b c.in-Del.table.name c.in-Del.rowid) c.may_pass-in-Del.result (λ r r'. refl) (simp to_z-of_z at c.in_ok-after-in-Del.ensures) c.may_pass-in-Del.ensures)
