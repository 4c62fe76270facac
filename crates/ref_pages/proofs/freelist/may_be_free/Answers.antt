use Rattle.std.proofs.Common.{ℕ, ◌≤◌, get_or, subst, arith, refl}
use Rattle.std.proofs.lemmas.Bool.{false≢true}
use Rattle.page_list.specs.Pages.{HasPage}
use Rattle.ref_pages.specs.AsPages.{pages_of}
use Rattle.ref_pages.proofs.DifferentLemmas.{place_of, among_at}
use Rattle.ref_pages.proofs.freelist.may_be_free.Goals.{then-number-lt2-via-then-number-lt2, then-number-lt2-via-else-number-lt2+then-number-size}
use Rattle.ref_pages.proofs.freelist.may_be_free.Goals as goal

pub returns-then-number-lt2 : goal.returns-then-number-lt2
returns-then-number-lt2 c = (
  λ is. absurd (false≢true is),
  λ may.
      let numbers = c.args.numbers.now in
      let here = may.each (get_or numbers c.loop-number.number-index 0) (among_at numbers c.loop-number.number-index c.loop-number-test.true) in
      absurd (elim c.then-number-lt2.branch [
        | then-number-lt2-via-then-number-lt2 w ↦ omega (arith, w.if-number-lt2.true, here.1)
        | then-number-lt2-via-else-number-lt2+then-number-size w ↦ omega (arith, w.if-number-size.true, w.size.ensures.is, here.0.most)
      ]),
)

pub returns : goal.returns
returns c = (
  λ _. record {
    each = λ n some.
        let numbers = c.args.numbers.now in
        let p = place_of n numbers some in
        let P : ℕ → Type 0 = λ m. HasPage (pages_of c.args.pages.now) m × (2 ≤ m) in
        subst P p.here (c.loop-number.invariant p.at (omega (arith, p.within, c.loop-number-test.false)));
  },
  λ _. refl,
)
