use Rattle.std.proofs.Common.{IsTrue, [], sym, subst}
use Rattle.std.specs.Prelude.{Some}
use Rattle.std.proofs.lemmas.Int.{to_z-of_z}
use Rattle.std.proofs.lemmas.Result.{err_from_is_err_and}
use Rattle.page_list.specs.Pages.{Pages}
use Rattle.tree_model.specs.declared.ends.Fault.{Fault}
use Rattle.tree_model.specs.declared.ends.WalkEnd.TheVariants.{StopsAt}
use Rattle.tree_model.specs.Walk.{Walk}
use Rattle.tree_search.specs.Search.{SearchRefused}
use Rattle.table_rows.specs.Rows.{HasNextRecord}
use Rattle.table_store.proofs.ReadLemmas.{next_refused, next_scanned}
use Rattle.table_store.proofs.reads.next_of.Goals as goal

pub returns-in_err-row-clause-refused : goal.returns-in_err-row-clause-refused
returns-in_err-row-clause-refused g c =
    let state = g.S.PageSpace.state in
    let old = state c.args.space.now in
    let mid = state c.find_table.new.space in
    let new = state c.next_record.new.space in
    let place = c.in_ok-place.place in
    let from_fits = c.ranges.from in
    let to_fits = c.ranges.to in
    let A : Fault → Type 0 = λ f. Walk (Some place.columns) mid.pages place.root c.args.from c.args.to [] (StopsAt f) in
    let refused : SearchRefused mid new A c.in_err-row.field-0.0 = simp to_z-of_z at c.in_err-row.ensures.refused in
    let p = err_from_is_err_and c.from_residual-in_err-row.result c.from_residual-in_err-row.ensures.1 in
    rw (p.1, p.2)
    (next_refused old mid new c.args.name.now place c.args.from c.args.to c.in_err-row.field-0.0 c.in_ok-place.ensures.steady c.in_ok-place.ensures.stays c.in_ok-place.ensures.found refused)

pub returns-clause-found : goal.returns-clause-found
returns-clause-found g c = λ t.
    let state = g.S.PageSpace.state in
    let old = state c.args.space.now in
    let mid = state c.find_table.new.space in
    let place = c.in_ok-place.place in
    let from_fits = c.ranges.from in
    let to_fits = c.ranges.to in
    let P : Pages → Type 0 = λ p. HasNextRecord place.columns p place.root c.args.from c.args.to c.in_ok-row.row in
    let found : IsTrue mid.tells → P mid.pages = simp to_z-of_z at c.in_ok-row.ensures.found in
    let here = subst P (c.in_ok-place.ensures.stays.pages_stay t) (found (subst IsTrue (sym c.in_ok-place.ensures.steady.told) t)) in
    next_scanned old.pages c.args.name.now place c.args.from c.args.to c.in_ok-row.row c.in_ok-full.full (c.in_ok-place.ensures.found t) here c.in_ok-full.ensures
