use Rattle.std.proofs.Common.{subst, Option, Some, IsTrue}
use Rattle.std.proofs.lemmas.Int.{to_z-of_z}
use Rattle.std.proofs.lemmas.Result.{err_from_is_err_and}
use Rattle.tree_model.specs.declared.ends.Fault.{Fault}
use Rattle.tree_model.specs.declared.ends.PathEnd.TheVariants.{Ends}
use Rattle.tree_search.specs.declared.row.OnLeaf.{OnLeaf}
use Rattle.tree_search.specs.Search.{EndsAlways, PathIs, SearchRefused}
use Rattle.table_rows.proofs.RecordLemmas.{way_refused, row_found, row_refused}
use Rattle.table_rows.proofs.find.find_record.Goals as goal

pub returns-in_err-row-clause-refused : goal.returns-in_err-row-clause-refused
returns-in_err-row-clause-refused g c =
    let state = g.S.PageSpace.state in
    let old = state c.args.space.now in
    let new = state c.find_on_leaf.new.space in
    let key_fits = c.ranges.rowid in
    let A : Fault → Type 0 = λ f. EndsAlways old.pages c.args.root c.args.rowid (Ends f) in
    let p = err_from_is_err_and c.from_residual.result c.from_residual.ensures.1 in
    let refused : SearchRefused old new A c.in_err-row.field-0.0 = simp to_z-of_z at c.in_err-row.ensures.refused in
    rw (p.1, p.2) (way_refused c.args.columns old new c.args.root c.args.rowid c.in_err-row.field-0.0 refused)

pub returns-in_default-clause-found : goal.returns-in_default-clause-found
returns-in_default-clause-found g c = λ t.
    let pages = (g.S.PageSpace.state c.args.space.now).pages in
    let key_fits = c.ranges.rowid in
    let found : PathIs pages c.args.root c.args.rowid c.in_ok-row.field-0 = simp to_z-of_z at (c.in_ok-row.ensures.found t) in
    let P : Option OnLeaf → Type 0 = λ row. PathIs pages c.args.root c.args.rowid row in
    (subst P c.in_default.is found).path (Some c.args.columns)

pub returns-in_err-record-clause-refused : goal.returns-in_err-record-clause-refused
returns-in_err-record-clause-refused g c =
    let state = g.S.PageSpace.state in
    let old = state c.args.space.now in
    let new = state c.find_on_leaf.new.space in
    let key_fits = c.ranges.rowid in
    let P : Option OnLeaf → Type 0 = λ row. PathIs old.pages c.args.root c.args.rowid row in
    let found : IsTrue old.tells → P c.in_ok-row.field-0 = simp to_z-of_z at c.in_ok-row.ensures.found in
    let p = err_from_is_err_and c.from_residual-in_err-record.result c.from_residual-in_err-record.ensures.1 in
    rw (p.1, p.2)
    (row_refused c.args.columns old new c.args.root c.args.rowid c.in-Some.row c.in_err-record.field-0.0 (λ t. subst P c.in-Some.is (found t)) c.in_err-record.ensures.refused)

pub returns-clause-found : goal.returns-clause-found
returns-clause-found g c = λ t.
    let pages = (g.S.PageSpace.state c.args.space.now).pages in
    let key_fits = c.ranges.rowid in
    let P : Option OnLeaf → Type 0 = λ row. PathIs pages c.args.root c.args.rowid row in
    let found : P c.in_ok-row.field-0 = simp to_z-of_z at (c.in_ok-row.ensures.found t) in
    row_found c.args.columns pages c.args.root c.args.rowid c.in-Some.row c.in_ok-record.record (subst P c.in-Some.is found) c.in_ok-record.ensures.found c.in_ok-record.ensures.few
