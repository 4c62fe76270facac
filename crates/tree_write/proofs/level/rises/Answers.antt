use Rattle.std.proofs.Common.{◌≡◌, ◌∙◌, ◌-◌, ℕ, length, take, drop, nat_eq, ap, sym, subst, refl, IsTrue, arith}
use Rattle.std.specs.Int.{w64}
use Rattle.std.proofs.lemmas.Bool.{false≢true}
use Rattle.std.proofs.lemmas.Int.{to_z-of_z}
use Rattle.std.proofs.lemmas.List.{take_rest}
use Rattle.tree_write.specs.Steps.{key_at, EndsBelow, BeginsAbove}
use Rattle.tree_write.proofs.RiseLemmas.{at-both, lt-is, rises-iff, no-place-before, no-place-behind}
use Rattle.tree_write.proofs.level.rises.Goals as goal

pub returns-then-not-ends_below : goal.returns-then-not-ends_below
returns-then-not-ends_below c =
    let level = c.args.level.now in
    let first = to_z-of_z w64 c.key_at-first.result (search c) ∙ c.key_at-first.ensures in
    no-place-before level c.args.front.now c.requires.some c.requires.few (λ e. false≢true (sym c.if-not-ends_below.true ∙ c.ends_below.ensures.1
    (at-both EndsBelow _ _ _ _ (ap (take level.at) (sym c.as_slice-cells.ensures)) (sym first) e)))

pub returns-then-not-begins_above : goal.returns-then-not-begins_above
returns-then-not-begins_above c =
    let level = c.args.level.now in
    let last = to_z-of_z w64 c.key_at-last.result (search c) ∙ c.key_at-last.ensures in
    no-place-behind level c.args.front.now c.requires.some c.requires.few (λ e. false≢true (sym c.if-not-begins_above.true ∙ c.begins_above.ensures.1
    (at-both (λ l k. BeginsAbove k l) _ _ _ _ (sym (take_rest c.as_slice-cells.result.now level.at ∙ ap (drop level.at) c.as_slice-cells.ensures)) (sym last) e)))

pub returns-then-front-eq1 : goal.returns-then-front-eq1
returns-then-front-eq1 c =
    let level = c.args.level.now in
    let front = c.args.front.now in
    let first = to_z-of_z w64 c.key_at-first.result (search c) ∙ c.key_at-first.ensures in
    let last = to_z-of_z w64 c.key_at-last.result (search c) ∙ c.key_at-last.ensures in
    let one : length front ≡ 1 = c.if-front-eq1.true in
    let P : ℕ → Type 0 = λ n. IsTrue (nat_eq n 1) in
    rises-iff level front _ c.requires.rising c.requires.some c.requires.few
    (at-both EndsBelow _ _ _ _ (ap (take level.at) c.as_slice-cells.ensures) first (c.ends_below.ensures.0 c.if-not-ends_below.false))
    (at-both (λ l k. BeginsAbove k l) _ _ _ _ (take_rest c.as_slice-cells.result.now level.at ∙ ap (drop level.at) c.as_slice-cells.ensures) last (c.begins_above.ensures.0 c.if-not-begins_above.false))
    (λ t two. absurd (omega (arith, one, two)), λ place. subst P (sym one) refl)

pub returns-else-front-eq1 : goal.returns-else-front-eq1
returns-else-front-eq1 c =
    let level = c.args.level.now in
    let front = c.args.front.now in
    let first = to_z-of_z w64 c.key_at-first.result (search c) ∙ c.key_at-first.ensures in
    let last = to_z-of_z w64 c.key_at-last.result (search c) ∙ c.key_at-last.ensures in
    let two : length front ≡ 2 = omega (arith, c.requires.some, c.requires.few, c.if-front-eq1.false) in
    rises-iff level front _ c.requires.rising c.requires.some c.requires.few
    (at-both EndsBelow _ _ _ _ (ap (take level.at) c.as_slice-cells.ensures) first (c.ends_below.ensures.0 c.if-not-ends_below.false))
    (at-both (λ l k. BeginsAbove k l) _ _ _ _ (take_rest c.as_slice-cells.result.now level.at ∙ ap (drop level.at) c.as_slice-cells.ensures) last (c.begins_above.ensures.0 c.if-not-begins_above.false))
    (lt-is _ _ (key_at front 0) (key_at front (length front - 1)) first last (λ less is. less, λ place. place two))
