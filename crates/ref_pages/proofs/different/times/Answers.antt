use Rattle.std.proofs.Common.{get_or, arith, inl, inr}
use Rattle.page_list.proofs.ChainLemmas.{same_or_other}
use Rattle.ref_pages.proofs.DifferentLemmas.{times_more}
use Rattle.ref_pages.proofs.different.times.Goals.{then-other-number, else-other-number}
use Rattle.ref_pages.proofs.different.times.Goals as goal

pub loop-other-preserved : goal.loop-other-preserved
loop-other-preserved c =
    let other = get_or c.args.numbers.now c.loop-other.other-index 0 in
    let more = times_more c.args.number c.loop-other.other-index c.args.numbers.now c.loop-other-test.true in
    let so_far = c.loop-other.invariant in
    elim c.if-other-number.branch [
      | then-other-number w ↦ elim (same_or_other c.args.number other) [
        | inl s ↦ record { counted = omega (arith, w.count-is, more, s.1, so_far.counted); bounded = omega (arith, w.count-is, so_far.bounded) }
        | inr o ↦ absurd (o.0 w.if-other-number.true)
      ]
      | else-other-number w ↦ elim (same_or_other c.args.number other) [
        | inl s ↦ absurd (w.if-other-number.false s.0)
        | inr o ↦ record { counted = omega (arith, w.count-is, more, o.1, so_far.counted); bounded = omega (arith, w.count-is, so_far.bounded) }
      ]
    ]
