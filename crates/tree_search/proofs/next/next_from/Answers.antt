use Rattle.std.proofs.Common.{◌≡◌, ◌≤ℤ◌, List, ℕ, ℤ, Option, subst, sym, arith}
use Rattle.std.specs.Option.{option_map}
use Rattle.std.proofs.lemmas.Int.{to_z-of_z, ints}
use Rattle.std.proofs.lemmas.Result.{err_from_is_err_and}
use Rattle.tree_model.specs.Tree.{rows_of}
use Rattle.tree_model.specs.Whole.{below_all}
use Rattle.tree_model.specs.Laws.{first_row, shown}
use Rattle.tree_search.specs.Search.{SearchRefused, NextIs, NextOnLeaf, NextMeets}
use Rattle.tree_search.proofs.NextRowLemmas.{next_is, whole_next, next_clean}
use Rattle.tree_search.proofs.next.next_from.Goals as goal

pub returns-clause-found : goal.returns-clause-found
returns-clause-found g c = λ t.
    let pages = (g.S.PageSpace.state c.args.space.now).pages in
    let key_fits = c.ranges.from in
    let found : NextOnLeaf pages c.args.root c.args.from c.in_ok-row.row = simp to_z-of_z at (c.in_ok-row.ensures.found t) in
    subst (NextIs pages c.args.root c.args.from) (sym c.shown_in.ensures) (next_is pages c.args.root c.args.from c.in_ok-row.row found)

pub returns-clause-whole : goal.returns-clause-whole
returns-clause-whole g c = λ t tree whole.
    let pages = (g.S.PageSpace.state c.args.space.now).pages in
    let key_fits = c.ranges.from in
    let least : below_all ≤ℤ c.args.from = omega (arith, ints) in
    let found : NextOnLeaf pages c.args.root c.args.from c.in_ok-row.row = simp to_z-of_z at (c.in_ok-row.ensures.found t) in
    let P : Option (ℤ × List ℕ) → Type 0 = λ next. next ≡ option_map shown (first_row c.args.from (rows_of tree)) in
    subst P (sym c.shown_in.ensures) (whole_next c.one_next.ensures c.next_gives.ensures pages c.args.root c.args.from c.in_ok-row.row least found tree whole)

pub returns-in_err-row-clause-refused : goal.returns-in_err-row-clause-refused
returns-in_err-row-clause-refused g c =
    let state = g.S.PageSpace.state in
    let old = state c.args.space.now in
    let new = state c.next_on_leaf.new.space in
    let key_fits = c.ranges.from in
    let p = err_from_is_err_and c.from_residual.result c.from_residual.ensures.1 in
    let refused : SearchRefused old new (NextMeets old.pages c.args.root c.args.from) c.in_err-row.field-0.0 = simp to_z-of_z at c.in_err-row.ensures.refused in
    rw (p.1, p.2) refused

pub returns-in_err-row-clause-clean : goal.returns-in_err-row-clause-clean
returns-in_err-row-clause-clean g c = λ t.
    let state = g.S.PageSpace.state in
    let old = state c.args.space.now in
    let new = state c.next_on_leaf.new.space in
    let key_fits = c.ranges.from in
    let least : below_all ≤ℤ c.args.from = omega (arith, ints) in
    let p = err_from_is_err_and c.from_residual.result c.from_residual.ensures.1 in
    let refused : SearchRefused old new (NextMeets old.pages c.args.root c.args.from) c.in_err-row.field-0.0 = simp to_z-of_z at c.in_err-row.ensures.refused in
    rw (p.1, p.2) (next_clean c.one_next.ensures c.next_gives.ensures old new c.args.root c.args.from c.in_err-row.field-0.0 t least refused)
