use Rattle.std.proofs.Common.{◌≡◌, ◌≢◌, List, [], ◌∷◌, ◌++◌, subst, sym, ap, Option, Some, IfSome, IsTrue, ℤ, pos, ◌+ℤ◌, refl, SFits, w64, to_z, of_z, ◌≤ℤ◌, ◌<ℤ◌, rules, arith, ◌∙◌}
use Rattle.std.proofs.lemmas.Int.{to_z-of_z, ints}
use Rattle.std.proofs.lemmas.Result.{err_from_is_err_and}
use Rattle.page_list.specs.Pages.{Pages}
use Rattle.payload_chain.proofs.StateLemmas.{steady-on, stays-on}
use Rattle.db_format.specs.declared.value.Value.{Value}
use Rattle.tree_model.specs.declared.ends.Fault.{Fault}
use Rattle.tree_model.specs.declared.ends.WalkEnd.TheVariants.{End, StopsAt}
use Rattle.tree_model.specs.Walk.{Walk}
use Rattle.tree_search.specs.Search.{SearchRefused}
use Rattle.table_rows.specs.Rows.{HasNextRecord}
use Rattle.table_rows.specs.Steps.{HasRows}
use Rattle.table_rows.proofs.WalkLemmas.{gap_falls, next_fits, rows_more, rows_last, rows_end, rows_refused}
use Rattle.table_rows.proofs.walks.walk.Goals as goal

pub returns-in_err-rowid-clause-refused : goal.returns-in_err-rowid-clause-refused
returns-in_err-rowid-clause-refused g c =
    let state = g.S.PageSpace.state in
    let old = state c.args.space.now in
    let mid = state c.loop-rows.space in
    let low_fits = c.ranges.from in
    let high_fits = c.ranges.to in
    let key = to_z w64 c.loop-rows.key-bits in
    let has : IsTrue old.tells → HasRows c.args.columns old.pages c.args.root c.args.from c.args.to c.loop-rows.rows.items key = simp to_z-of_z at c.loop-rows.invariant.rows in
    let new = state c.next_record.new.space in
    let p = err_from_is_err_and c.from_residual.result c.from_residual.ensures.1 in
    let A : Fault → Type 0 = λ f. Walk (Some c.args.columns) mid.pages c.args.root key c.args.to [] (StopsAt f) in
    let refused : SearchRefused mid new A c.in_err-rowid.field-0.0 = simp to_z-of_z at c.in_err-rowid.ensures.refused in
    rw (p.1, p.2)
    (rows_refused c.args.columns old mid new c.args.root c.args.from c.args.to c.loop-rows.rows.items key c.in_err-rowid.field-0.0 c.loop-rows.invariant.steady c.loop-rows.invariant.stays
    has refused)

pub returns-in_default-clause-found : goal.returns-in_default-clause-found
returns-in_default-clause-found g c = λ t.
    let state = g.S.PageSpace.state in
    let old = state c.args.space.now in
    let mid = state c.loop-rows.space in
    let low_fits = c.ranges.from in
    let high_fits = c.ranges.to in
    let key = to_z w64 c.loop-rows.key-bits in
    let has : IsTrue old.tells → HasRows c.args.columns old.pages c.args.root c.args.from c.args.to c.loop-rows.rows.items key = simp to_z-of_z at c.loop-rows.invariant.rows in
    let P : Pages → Option (ℤ × List Value) → Type 0 = λ p next. HasNextRecord c.args.columns p c.args.root key c.args.to next in
    let found : IsTrue mid.tells → P mid.pages c.in_ok-rowid.field-0 = simp to_z-of_z at c.in_ok-rowid.ensures.found in
    let none = subst (P old.pages) c.in_default.is (subst (λ (p : Pages). P p c.in_ok-rowid.field-0) (c.loop-rows.invariant.stays.pages_stay t) (found (c.loop-rows.invariant.steady.told ∙ t))) in
    rows_end c.args.columns old.pages c.args.root c.args.from c.args.to c.loop-rows.rows.items key End (has t) none

pub returns-then-rowid-to-clause-found : goal.returns-then-rowid-to-clause-found
returns-then-rowid-to-clause-found g c = λ t.
    let state = g.S.PageSpace.state in
    let old = state c.args.space.now in
    let mid = state c.loop-rows.space in
    let low_fits = c.ranges.from in
    let high_fits = c.ranges.to in
    let key = to_z w64 c.loop-rows.key-bits in
    let has : IsTrue old.tells → HasRows c.args.columns old.pages c.args.root c.args.from c.args.to c.loop-rows.rows.items key = simp to_z-of_z at c.loop-rows.invariant.rows in
    let P : Pages → Option (ℤ × List Value) → Type 0 = λ p next. HasNextRecord c.args.columns p c.args.root key c.args.to next in
    let found : IsTrue mid.tells → P mid.pages c.in_ok-rowid.field-0 = simp to_z-of_z at c.in_ok-rowid.ensures.found in
    let rowid = c.in-Some.rowid in
    let rowid_fits : SFits w64 rowid = search rules in
    let R : Option (ℤ × List Value) → Type 0 = λ next. IfSome next (λ row. (key ≤ℤ row.0) × (row.0 ≤ℤ c.args.to)) in
    let within : R c.in_ok-rowid.field-0 = simp to_z-of_z at c.in_ok-rowid.ensures.within in
    let range : (key ≤ℤ rowid) × (rowid ≤ℤ c.args.to) = subst R c.in-Some.is within in
    let follows : IsTrue old.tells → P old.pages (Some (rowid, c.in-Some.record)) =
    λ t. subst (P old.pages) c.in-Some.is (subst (λ (p : Pages). P p c.in_ok-rowid.field-0) (c.loop-rows.invariant.stays.pages_stay t) (found (c.loop-rows.invariant.steady.told ∙ t))) in
    let pushed : c.push.new.self.items ≡ c.loop-rows.rows.items ++ (rowid, c.in-Some.record) ∷ [] = simp to_z-of_z at c.in_ok-push.ensures.items in
    let last : rowid ≡ c.args.to = sym (to_z-of_z w64 rowid rowid_fits) ∙ ap (to_z w64) c.if-rowid-to.true ∙ to_z-of_z w64 c.args.to high_fits in
    rows_last c.args.columns old.pages c.args.root c.args.from c.args.to c.loop-rows.rows.items c.push.new.self.items key (rowid, c.in-Some.record) (has t) (follows t) last pushed

pub overflow_add-key : goal.overflow_add-key
overflow_add-key g c =
    let high_fits = c.ranges.to in
    let key = to_z w64 c.loop-rows.key-bits in
    let rowid = c.in-Some.rowid in
    let rowid_fits : SFits w64 rowid = search rules in
    let R : Option (ℤ × List Value) → Type 0 = λ next. IfSome next (λ row. (key ≤ℤ row.0) × (row.0 ≤ℤ c.args.to)) in
    let within : R c.in_ok-rowid.field-0 = simp to_z-of_z at c.in_ok-rowid.ensures.within in
    let range : (key ≤ℤ rowid) × (rowid ≤ℤ c.args.to) = subst R c.in-Some.is within in
    let other : rowid ≢ c.args.to = λ same. c.if-rowid-to.false (ap (of_z w64) same) in
    let below : rowid <ℤ c.args.to = omega (arith, ints, range.1, other) in
    let more_fits : SFits w64 (rowid +ℤ pos 1) = next_fits rowid c.args.to rowid_fits high_fits below in
    simp to_z-of_z more_fits

pub loop-rows-smaller : goal.loop-rows-smaller
loop-rows-smaller g c =
    let high_fits = c.ranges.to in
    let key = to_z w64 c.loop-rows.key-bits in
    let rowid = c.in-Some.rowid in
    let rowid_fits : SFits w64 rowid = search rules in
    let R : Option (ℤ × List Value) → Type 0 = λ next. IfSome next (λ row. (key ≤ℤ row.0) × (row.0 ≤ℤ c.args.to)) in
    let within : R c.in_ok-rowid.field-0 = simp to_z-of_z at c.in_ok-rowid.ensures.within in
    let range : (key ≤ℤ rowid) × (rowid ≤ℤ c.args.to) = subst R c.in-Some.is within in
    let other : rowid ≢ c.args.to = λ same. c.if-rowid-to.false (ap (of_z w64) same) in
    let below : rowid <ℤ c.args.to = omega (arith, ints, range.1, other) in
    let more_fits : SFits w64 (rowid +ℤ pos 1) = next_fits rowid c.args.to rowid_fits high_fits below in
    simp to_z-of_z (gap_falls key rowid (rowid +ℤ pos 1) c.args.to range.0 below refl)

pub loop-rows-preserved : goal.loop-rows-preserved
loop-rows-preserved g c =
    let state = g.S.PageSpace.state in
    let old = state c.args.space.now in
    let mid = state c.loop-rows.space in
    let low_fits = c.ranges.from in
    let high_fits = c.ranges.to in
    let key = to_z w64 c.loop-rows.key-bits in
    let has : IsTrue old.tells → HasRows c.args.columns old.pages c.args.root c.args.from c.args.to c.loop-rows.rows.items key = simp to_z-of_z at c.loop-rows.invariant.rows in
    let P : Pages → Option (ℤ × List Value) → Type 0 = λ p next. HasNextRecord c.args.columns p c.args.root key c.args.to next in
    let found : IsTrue mid.tells → P mid.pages c.in_ok-rowid.field-0 = simp to_z-of_z at c.in_ok-rowid.ensures.found in
    let rowid = c.in-Some.rowid in
    let rowid_fits : SFits w64 rowid = search rules in
    let R : Option (ℤ × List Value) → Type 0 = λ next. IfSome next (λ row. (key ≤ℤ row.0) × (row.0 ≤ℤ c.args.to)) in
    let within : R c.in_ok-rowid.field-0 = simp to_z-of_z at c.in_ok-rowid.ensures.within in
    let range : (key ≤ℤ rowid) × (rowid ≤ℤ c.args.to) = subst R c.in-Some.is within in
    let other : rowid ≢ c.args.to = λ same. c.if-rowid-to.false (ap (of_z w64) same) in
    let below : rowid <ℤ c.args.to = omega (arith, ints, range.1, other) in
    let more_fits : SFits w64 (rowid +ℤ pos 1) = next_fits rowid c.args.to rowid_fits high_fits below in
    let follows : IsTrue old.tells → P old.pages (Some (rowid, c.in-Some.record)) =
    λ t. subst (P old.pages) c.in-Some.is (subst (λ (p : Pages). P p c.in_ok-rowid.field-0) (c.loop-rows.invariant.stays.pages_stay t) (found (c.loop-rows.invariant.steady.told ∙ t))) in
    let pushed : c.push.new.self.items ≡ c.loop-rows.rows.items ++ (rowid, c.in-Some.record) ∷ [] = simp to_z-of_z at c.in_ok-push.ensures.items in
    let rows : IsTrue old.tells → HasRows c.args.columns old.pages c.args.root c.args.from c.args.to c.push.new.self.items (rowid +ℤ pos 1) = λ t.
    rows_more c.args.columns old.pages c.args.root c.args.from c.args.to c.loop-rows.rows.items c.push.new.self.items key (rowid +ℤ pos 1) (rowid, c.in-Some.record) (has t) (follows t) below
    pushed refl in
    record {
      steady = steady-on c.loop-rows.invariant.steady c.in_ok-rowid.ensures.steady;
      stays = stays-on c.loop-rows.invariant.steady c.loop-rows.invariant.stays c.in_ok-rowid.ensures.stays;
      rows = simp to_z-of_z rows;
    }
