use Rattle.std.proofs.Common.{subst, Option, IsTrue, SFits, w64, ◌≤ℤ◌, ◌<ℤ◌, rules, arith}
use Rattle.std.proofs.lemmas.Int.{to_z-of_z, ints}
use Rattle.std.proofs.lemmas.Result.{err_from_is_err_and}
use Rattle.tree_search.specs.declared.row.OnLeaf.{OnLeaf}
use Rattle.tree_search.specs.Search.{NextOnLeaf, NextMeets, SearchRefused}
use Rattle.table_rows.proofs.RecordLemmas.{none_left, row_past, next_found, search_refused, next_refused}
use Rattle.table_rows.proofs.next.next_record.Goals as goal

pub returns-in_err-row-clause-refused : goal.returns-in_err-row-clause-refused
returns-in_err-row-clause-refused g c =
    let state = g.S.PageSpace.state in
    let old = state c.args.space.now in
    let new = state c.next_on_leaf.new.space in
    let from_fits = c.ranges.from in
    let to_fits = c.ranges.to in
    let p = err_from_is_err_and c.from_residual.result c.from_residual.ensures.1 in
    let within : c.args.from ≤ℤ c.args.to = omega (arith, ints, c.if-to-from.false) in
    let refused : SearchRefused old new (NextMeets old.pages c.args.root c.args.from) c.in_err-row.field-0.0 = simp to_z-of_z at c.in_err-row.ensures.refused in
    rw (p.1, p.2) (search_refused c.args.columns old new c.args.root c.args.from c.args.to c.in_err-row.field-0.0 within refused)

pub returns-in_default-clause-found : goal.returns-in_default-clause-found
returns-in_default-clause-found g c = λ t.
    let pages = (g.S.PageSpace.state c.args.space.now).pages in
    let from_fits = c.ranges.from in
    let to_fits = c.ranges.to in
    let within : c.args.from ≤ℤ c.args.to = omega (arith, ints, c.if-to-from.false) in
    let P : Option OnLeaf → Type 0 = λ row. NextOnLeaf pages c.args.root c.args.from row in
    let found : P c.in_ok-row.field-0 = simp to_z-of_z at (c.in_ok-row.ensures.found t) in
    none_left c.args.columns pages c.args.root c.args.from c.args.to within (subst P c.in_default.is found)

pub returns-then-to-row-clause-found : goal.returns-then-to-row-clause-found
returns-then-to-row-clause-found g c = λ t.
    let pages = (g.S.PageSpace.state c.args.space.now).pages in
    let row = c.in-Some.row in
    let from_fits = c.ranges.from in
    let to_fits = c.ranges.to in
    let rowid_fits : SFits w64 row.rowid = search rules in
    let within : c.args.from ≤ℤ c.args.to = omega (arith, ints, c.if-to-from.false) in
    let past : c.args.to <ℤ row.rowid = omega (arith, ints, c.if-to-row.true) in
    let P : Option OnLeaf → Type 0 = λ row. NextOnLeaf pages c.args.root c.args.from row in
    let found : P c.in_ok-row.field-0 = simp to_z-of_z at (c.in_ok-row.ensures.found t) in
    row_past c.args.columns pages c.args.root c.args.from c.args.to row within (subst P c.in-Some.is found) past

pub returns-in_err-record-clause-refused : goal.returns-in_err-record-clause-refused
returns-in_err-record-clause-refused g c =
    let state = g.S.PageSpace.state in
    let old = state c.args.space.now in
    let new = state c.next_on_leaf.new.space in
    let row = c.in-Some.row in
    let from_fits = c.ranges.from in
    let to_fits = c.ranges.to in
    let rowid_fits : SFits w64 row.rowid = search rules in
    let within : c.args.from ≤ℤ c.args.to = omega (arith, ints, c.if-to-from.false) in
    let below : row.rowid ≤ℤ c.args.to = omega (arith, ints, c.if-to-row.false) in
    let P : Option OnLeaf → Type 0 = λ row. NextOnLeaf old.pages c.args.root c.args.from row in
    let found : IsTrue old.tells → P c.in_ok-row.field-0 = simp to_z-of_z at c.in_ok-row.ensures.found in
    let p = err_from_is_err_and c.from_residual-in_err-record.result c.from_residual-in_err-record.ensures.1 in
    rw (p.1, p.2)
    (next_refused c.args.columns old new c.args.root c.args.from c.args.to row c.in_err-record.field-0.0 within (λ t. subst P c.in-Some.is (found t)) below c.in_err-record.ensures.refused)

pub returns-clause-found : goal.returns-clause-found
returns-clause-found g c = λ t.
    let pages = (g.S.PageSpace.state c.args.space.now).pages in
    let row = c.in-Some.row in
    let from_fits = c.ranges.from in
    let to_fits = c.ranges.to in
    let rowid_fits : SFits w64 row.rowid = search rules in
    let within : c.args.from ≤ℤ c.args.to = omega (arith, ints, c.if-to-from.false) in
    let below : row.rowid ≤ℤ c.args.to = omega (arith, ints, c.if-to-row.false) in
    let P : Option OnLeaf → Type 0 = λ row. NextOnLeaf pages c.args.root c.args.from row in
    let found : P c.in_ok-row.field-0 = simp to_z-of_z at (c.in_ok-row.ensures.found t) in
    simp to_z-of_z
    (next_found c.args.columns pages c.args.root c.args.from c.args.to row c.in_ok-record.record within (subst P c.in-Some.is found) below c.in_ok-record.ensures.found
    c.in_ok-record.ensures.few)
