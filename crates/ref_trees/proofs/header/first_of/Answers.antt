use Rattle.std.proofs.Common.{◌≡◌, ℕ, get_or, set, subst, ◌∙◌, inl, inr, arith}
use Rattle.std.proofs.Math.ListN.{length-set}
use Rattle.std.proofs.lemmas.Bool.{cases_lt}
use Rattle.std.proofs.lemmas.List.{get_or-set_same, get_or-set_other}
use Rattle.ref_trees.specs.ForestSteps.{without_size}
use Rattle.ref_trees.proofs.HeaderLemmas.{front_is}
use Rattle.ref_trees.proofs.header.first_of.Goals as goal

pub loop-at-preserved : goal.loop-at-preserved
loop-at-preserved c =
    let at = c.loop-at.at in
    let whole = without_size c.args.bytes.now in
    record {
      hundred = length-set c.loop-at.first at c.byte_at.result ∙ c.loop-at.invariant.hundred;
      so_far = λ k below.
          elim (cases_lt k at) [
            | inl low ↦ get_or-set_other c.loop-at.first at k c.byte_at.result 0 (λ e. omega (arith, e, low)) ∙ c.loop-at.invariant.so_far k low
            | inr high ↦ (
                let same : at ≡ k = omega (arith, below, high) in
                let P : ℕ → Type 0 = λ n. get_or (set c.loop-at.first at c.byte_at.result) n 0 ≡ get_or whole n 0 in
                subst P same (get_or-set_same c.loop-at.first at c.byte_at.result 0 (omega (arith, c.loop-at.invariant.hundred, c.loop-at-test.true)) ∙ c.byte_at.ensures))
          ];
    }

pub returns : goal.returns
returns c = front_is c.loop-at.first c.args.bytes.now c.loop-at.invariant.hundred (omega arith) (λ k low. c.loop-at.invariant.so_far k (omega (arith, low)))
