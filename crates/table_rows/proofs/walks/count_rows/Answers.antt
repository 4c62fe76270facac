use Rattle.std.proofs.Common.{◌≡◌, ◌≢◌, List, subst, sym, ap, Option, IfSome, IsTrue, ℤ, pos, ◌+ℤ◌, refl, SFits, w64, to_z, of_z, ◌≤ℤ◌, ◌<ℤ◌, rules, arith, ◌∙◌}
use Rattle.std.proofs.lemmas.Int.{to_z-of_z, ints}
use Rattle.std.proofs.lemmas.Result.{err_from_is_err_and}
use Rattle.page_list.specs.Pages.{Pages}
use Rattle.payload_chain.proofs.StateLemmas.{steady-on, stays-on}
use Rattle.db_format.specs.declared.value.Value.{Value}
use Rattle.tree_model.specs.Whole.{greatest}
use Rattle.table_rows.specs.Rows.{HasNextRecord}
use Rattle.table_rows.proofs.WalkLemmas.{gap_falls, next_fits}
use Rattle.table_rows.proofs.CountLemmas.{HasCounted, counted_none, counted_more, counted_last, counted_end, counted_refused}
use Rattle.table_rows.proofs.walks.count_rows.Goals as goal

pub loop-rowid-init : goal.loop-rowid-init
loop-rowid-init g c = record {
  steady = search rules;
  stays = search rules;
  counted = λ t. counted_none c.args.columns (g.S.PageSpace.state c.args.space.now).pages c.args.root;
}

pub returns-in_err-rowid-clause-refused : goal.returns-in_err-rowid-clause-refused
returns-in_err-rowid-clause-refused g c =
    let state = g.S.PageSpace.state in
    let old = state c.args.space.now in
    let mid = state c.loop-rowid.space in
    let key = to_z w64 c.loop-rowid.key-bits in
    let new = state c.next_record.new.space in
    let p = err_from_is_err_and c.from_residual.result c.from_residual.ensures.1 in
    rw (p.1, p.2)
    (counted_refused c.args.columns old mid new c.args.root c.loop-rowid.count key c.in_err-rowid.field-0.0 c.loop-rowid.invariant.steady c.loop-rowid.invariant.stays
    c.loop-rowid.invariant.counted c.in_err-rowid.ensures.refused)

pub returns-in_default-clause-found : goal.returns-in_default-clause-found
returns-in_default-clause-found g c = λ t.
    let state = g.S.PageSpace.state in
    let old = state c.args.space.now in
    let mid = state c.loop-rowid.space in
    let key = to_z w64 c.loop-rowid.key-bits in
    let P : Pages → Option (ℤ × List Value) → Type 0 = λ p next. HasNextRecord c.args.columns p c.args.root key greatest next in
    let found : IsTrue old.tells → P old.pages c.in_ok-rowid.field-0 =
    λ t. subst (λ (p : Pages). P p c.in_ok-rowid.field-0) (c.loop-rowid.invariant.stays.pages_stay t) (c.in_ok-rowid.ensures.found (c.loop-rowid.invariant.steady.told ∙ t)) in
    counted_end c.args.columns old.pages c.args.root c.loop-rowid.count key (c.loop-rowid.invariant.counted t) (subst (P old.pages) c.in_default.is (found t))

pub returns-then-rowid-eq9223372036854775807-clause-found : goal.returns-then-rowid-eq9223372036854775807-clause-found
returns-then-rowid-eq9223372036854775807-clause-found g c = λ t.
    let state = g.S.PageSpace.state in
    let old = state c.args.space.now in
    let mid = state c.loop-rowid.space in
    let key = to_z w64 c.loop-rowid.key-bits in
    let P : Pages → Option (ℤ × List Value) → Type 0 = λ p next. HasNextRecord c.args.columns p c.args.root key greatest next in
    let found : IsTrue old.tells → P old.pages c.in_ok-rowid.field-0 =
    λ t. subst (λ (p : Pages). P p c.in_ok-rowid.field-0) (c.loop-rowid.invariant.stays.pages_stay t) (c.in_ok-rowid.ensures.found (c.loop-rowid.invariant.steady.told ∙ t)) in
    let rowid = c.in-Some.rowid in
    let rowid_fits : SFits w64 rowid = search rules in
    let R : Option (ℤ × List Value) → Type 0 = λ next. IfSome next (λ row. (key ≤ℤ row.0) × (row.0 ≤ℤ greatest)) in
    let range : (key ≤ℤ rowid) × (rowid ≤ℤ greatest) = subst R c.in-Some.is c.in_ok-rowid.ensures.within in
    let last : rowid ≡ greatest = sym (to_z-of_z w64 rowid rowid_fits) ∙ ap (to_z w64) c.if-rowid-eq9223372036854775807.true in
    counted_last c.one_page.ensures c.args.columns old c.args.root c.loop-rowid.count c.saturating_add-count.result key (rowid, c.in-Some.field-0-1) c.ask_sizes.ensures.sizes
    (c.loop-rowid.invariant.counted t) (subst (P old.pages) c.in-Some.is (found t)) range.0 last c.saturating_add-count.ensures

pub loop-rowid-smaller : goal.loop-rowid-smaller
loop-rowid-smaller g c =
    let key = to_z w64 c.loop-rowid.key-bits in
    let rowid = c.in-Some.rowid in
    let rowid_fits : SFits w64 rowid = search rules in
    let R : Option (ℤ × List Value) → Type 0 = λ next. IfSome next (λ row. (key ≤ℤ row.0) × (row.0 ≤ℤ greatest)) in
    let range : (key ≤ℤ rowid) × (rowid ≤ℤ greatest) = subst R c.in-Some.is c.in_ok-rowid.ensures.within in
    let high_fits : SFits w64 greatest = search rules in
    let other : rowid ≢ greatest = λ same. c.if-rowid-eq9223372036854775807.false (ap (of_z w64) same) in
    let below : rowid <ℤ greatest = omega (arith, ints, range.1, other) in
    let more_fits : SFits w64 (rowid +ℤ pos 1) = next_fits rowid greatest rowid_fits high_fits below in
    simp to_z-of_z (gap_falls key rowid (rowid +ℤ pos 1) greatest range.0 below refl)

pub loop-rowid-preserved : goal.loop-rowid-preserved
loop-rowid-preserved g c =
    let state = g.S.PageSpace.state in
    let old = state c.args.space.now in
    let mid = state c.loop-rowid.space in
    let key = to_z w64 c.loop-rowid.key-bits in
    let P : Pages → Option (ℤ × List Value) → Type 0 = λ p next. HasNextRecord c.args.columns p c.args.root key greatest next in
    let found : IsTrue old.tells → P old.pages c.in_ok-rowid.field-0 =
    λ t. subst (λ (p : Pages). P p c.in_ok-rowid.field-0) (c.loop-rowid.invariant.stays.pages_stay t) (c.in_ok-rowid.ensures.found (c.loop-rowid.invariant.steady.told ∙ t)) in
    let rowid = c.in-Some.rowid in
    let rowid_fits : SFits w64 rowid = search rules in
    let R : Option (ℤ × List Value) → Type 0 = λ next. IfSome next (λ row. (key ≤ℤ row.0) × (row.0 ≤ℤ greatest)) in
    let range : (key ≤ℤ rowid) × (rowid ≤ℤ greatest) = subst R c.in-Some.is c.in_ok-rowid.ensures.within in
    let high_fits : SFits w64 greatest = search rules in
    let other : rowid ≢ greatest = λ same. c.if-rowid-eq9223372036854775807.false (ap (of_z w64) same) in
    let below : rowid <ℤ greatest = omega (arith, ints, range.1, other) in
    let more_fits : SFits w64 (rowid +ℤ pos 1) = next_fits rowid greatest rowid_fits high_fits below in
    let counted : IsTrue old.tells → HasCounted c.args.columns old.pages c.args.root c.saturating_add-count.result (rowid +ℤ pos 1) = λ t.
    counted_more c.one_page.ensures c.args.columns old c.args.root c.loop-rowid.count c.saturating_add-count.result key (rowid +ℤ pos 1) (rowid, c.in-Some.field-0-1)
    c.ask_sizes.ensures.sizes (c.loop-rowid.invariant.counted t) (subst (P old.pages) c.in-Some.is (found t)) range.0 below c.saturating_add-count.ensures refl in
    record {
      steady = steady-on c.loop-rowid.invariant.steady c.in_ok-rowid.ensures.steady;
      stays = stays-on c.loop-rowid.invariant.steady c.loop-rowid.invariant.stays c.in_ok-rowid.ensures.stays;
      counted = simp to_z-of_z counted;
    }
