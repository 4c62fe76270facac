use Rattle.std.proofs.Common.{◌≡◌, ℕ, List, [], ◌∷◌, ◌++◌, length, sym, ap, subst, length-append, arith}
use Rattle.ref_pages.specs.AsPages.{pages_of}
use Rattle.ref_pages.specs.ChainSteps.{IsCourse, GoesOn}
use Rattle.ref_pages.proofs.CourseLemmas.{goes_on}
use Rattle.ref_pages.proofs.chain.chain_of.Goals as goal

pub loop-numbers-preserved : goal.loop-numbers-preserved
loop-numbers-preserved c =
    let pages = pages_of c.args.pages.now in
    let before = c.loop-numbers.numbers in
    let next = c.loop-numbers.next in
    let payload = c.take_page.new.payload.items in
    let counted : c.as_slice.result.now ≡ before = c.as_slice.ensures in
    let given : c.as_slice-in-loop-numbers.result.now ≡ before = c.as_slice-in-loop-numbers.ensures in
    let P : List ℕ → Type 0 = λ numbers. IsCourse pages c.args.first numbers next c.in_ok-next.next payload in
    let Q : List ℕ → Type 0 = λ numbers. GoesOn pages numbers next in
    let on = subst Q given c.in_default.ensures.none in
    let pushed : c.push.new.self ≡ before ++ next ∷ [] = c.in_ok-push.ensures.ok in
    record {
      course = subst P (sym pushed)
          (goes_on pages c.args.first c.loop-numbers.last next c.in_ok-next.next before c.loop-numbers.payload.items payload c.loop-numbers.invariant.course
          on c.in_ok-next.ensures.next c.in_ok-next.ensures.took c.in_ok-next.ensures.long);
      within = omega (arith, ap (λ (l : List ℕ). length l) pushed, ap (λ (l : List ℕ). length l) counted, length-append before (next ∷ []));
    }
