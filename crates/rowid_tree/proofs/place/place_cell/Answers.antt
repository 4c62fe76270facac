use Rattle.std.proofs.Common.{inl, inr, subst, ℕ}
use Rattle.std.proofs.lemmas.Result.{err_from_is_err_and}
use Rattle.tree_plan.specs.Plan.{IsLeafPlan}
use Rattle.rowid_tree.proofs.CellLemmas.{replaced_kept}
use Rattle.rowid_tree.proofs.PutLemmas.{cell_placed, stops_writing}
use Rattle.rowid_tree.proofs.place.place_cell.Goals as goal

pub returns-in_err-sheets-2-clause-refused : goal.returns-in_err-sheets-2-clause-refused
returns-in_err-sheets-2-clause-refused g c =
    let old = g.S.PageSpace.state c.args.space.now in
    let d = c.args.descent in
    let P : ℕ → Type 0 = λ u. IsLeafPlan d.leaf u d.cells c.args.cell c.in_ok-sheets.field-0 in
    let p = err_from_is_err_and c.from_residual-in_err-sheets-2.result c.from_residual-in_err-sheets-2.ensures.1 in
    rw (p.1, p.2)
    (inr (inl (record { plan = c.in_ok-sheets.field-0; planned = subst P c.usable.ensures.value c.in_ok-sheets.ensures; refused = c.in_err-sheets-2.ensures.refused })))

pub returns-in_err-write_sheets-clause-refused : goal.returns-in_err-write_sheets-clause-refused
returns-in_err-write_sheets-clause-refused g c =
    let state = g.S.PageSpace.state in
    let old = state c.args.space.now in
    let d = c.args.descent in
    let P : ℕ → Type 0 = λ u. IsLeafPlan d.leaf u d.cells c.args.cell c.in_ok-sheets.field-0 in
    let p = err_from_is_err_and c.from_residual-in_err-write_sheets.result c.from_residual-in_err-write_sheets.ensures.1 in
    rw (p.1, p.2)
    (inr (inr (stops_writing {a = old} {b = state c.climb.new.space} {c = state c.write_sheets.new.space} d c.args.cell c.in_ok-sheets.field-0 c.in_ok-sheets-2.sheets.items
    c.in_err-write_sheets.field-0.0 (subst P c.usable.ensures.value c.in_ok-sheets.ensures)
    c.in_ok-sheets-2.ensures.climbed c.in_ok-sheets-2.ensures.steady c.in_err-write_sheets.ensures.steady c.in_err-write_sheets.ensures.size
    (rw c.deref.ensures.value at c.in_err-write_sheets.ensures.leaves) (rw c.deref.ensures.value at c.in_err-write_sheets.ensures.cause))))

pub returns-clause-placed : goal.returns-clause-placed
returns-clause-placed g c =
    let state = g.S.PageSpace.state in
    let old = state c.args.space.now in
    let d = c.args.descent in
    let P : ℕ → Type 0 = λ u. IsLeafPlan d.leaf u d.cells c.args.cell c.in_ok-sheets.field-0 in
    cell_placed {a = old} {b = state c.climb.new.space} {c = state c.write_sheets.new.space} d c.args.cell c.in_ok-sheets.field-0 c.in_ok-sheets-2.sheets.items
    (subst P c.usable.ensures.value c.in_ok-sheets.ensures)
    c.in_ok-sheets-2.ensures.climbed c.in_ok-sheets-2.ensures.steady c.in_ok-write_sheets.ensures.steady c.in_ok-write_sheets.ensures.size
    (rw c.deref.ensures.value at c.in_ok-write_sheets.ensures.leaves) (rw c.deref.ensures.value at c.in_ok-write_sheets.ensures.changed)

pub returns-clause-kept : goal.returns-clause-kept
returns-clause-kept g c =
    let d = c.args.descent in
    replaced_kept d.leaf (g.S.PageSpace.state c.args.space.now).pages.usable c.args.cell.rowid d.cells c.in_ok-sheets.field-0.replaced c.requires.sound.fits c.in_ok-sheets.ensures.replaced
