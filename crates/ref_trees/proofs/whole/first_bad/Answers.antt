use Rattle.std.proofs.Common.{is_some, ap, sym, ◌∙◌, subst, arith}
use Rattle.std.proofs.lemmas.Bool.{false≢true}
use Rattle.page_list.specs.Pages.{IsGood}
use Rattle.ref_pages.specs.AsPages.{pages_of}
use Rattle.ref_pages.proofs.DifferentLemmas.{place_of, among_at}
use Rattle.ref_trees.proofs.whole.first_bad.Goals as goal

pub returns-then-is_some-clause-some : goal.returns-then-is_some-clause-some
returns-then-is_some-clause-some c = (
  among_at c.args.numbers.now c.loop-number.number-index c.loop-number-test.true,
  λ good.
      let none = ap is_some (c.mark_of.ensures ∙ good) in
      false≢true (sym none ∙ sym c.is_some.ensures ∙ c.if-is_some.true),
)

pub returns-clause-none : goal.returns-clause-none
returns-clause-none c = λ page among.
    let p = place_of page c.args.numbers.now among in
    subst (IsGood (pages_of c.args.pages.now)) p.here (c.loop-number.invariant p.at (omega (arith, p.within, c.loop-number-test.false)))
