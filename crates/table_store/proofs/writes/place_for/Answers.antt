use Rattle.std.proofs.Common.{IsTrue}
use Rattle.std.proofs.lemmas.Int.{to_z-of_z}
use Rattle.std.proofs.lemmas.Result.{err_from_is_err_and}
use Rattle.std.specs.Prelude.{Some}
use Rattle.tree_model.specs.declared.ends.Fault.{Fault}
use Rattle.tree_model.specs.declared.ends.PathEnd.TheVariants.{Ends}
use Rattle.tree_model.specs.Walk.{Path}
use Rattle.tree_search.specs.Search.{SearchRefused}
use Rattle.table_rows.specs.Rows.{FindsRecord}
use Rattle.table_store.proofs.ReadLemmas.{row_refused}
use Rattle.table_store.proofs.WriteLemmas.{place_fails, row_is_read}
use Rattle.table_store.specs.declared.fault.TableFault.TheVariants.{Space}
use Rattle.table_store.proofs.writes.place_for.Goals as goal

pub returns-in_err-_row-clause-refused : goal.returns-in_err-_row-clause-refused
returns-in_err-_row-clause-refused g c =
    let state = g.S.PageSpace.state in
    let old = state c.args.space.now in
    let mid = state c.find_table.new.space in
    let new = state c.find_record.new.space in
    let place = c.in_ok-place.place in
    let key_fits = c.ranges.rowid in
    let A : Fault → Type 0 = λ f. Path (Some place.columns) mid.pages place.root c.args.rowid (Ends f) in
    let refused : SearchRefused mid new A c.in_err-_row.field-0.0 = simp to_z-of_z at c.in_err-_row.ensures.refused in
    let p = err_from_is_err_and c.from_residual-in_err-_row.result c.from_residual-in_err-_row.ensures.1 in
    rw (p.1, p.2)
    (place_fails old new c.args.name.now c.args.rowid c.args.values.now (Space c.in_err-_row.field-0.0)
    (row_refused old mid new c.args.name.now place c.args.rowid c.in_err-_row.field-0.0 c.in_ok-place.ensures.steady c.in_ok-place.ensures.stays c.in_ok-place.ensures.found refused))

pub returns-clause-read : goal.returns-clause-read
returns-clause-read g c =
    let state = g.S.PageSpace.state in
    let mid = state c.find_table.new.space in
    let place = c.in_ok-place.place in
    let key_fits = c.ranges.rowid in
    let found : IsTrue mid.tells → FindsRecord place.columns mid.pages place.root c.args.rowid c.in_ok-_row._row = simp to_z-of_z at c.in_ok-_row.ensures.found in
    row_is_read place c.in_ok-_row._row c.in_ok-place.ensures.steady c.in_ok-place.ensures.stays c.in_ok-place.ensures.found found
