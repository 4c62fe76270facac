-- A chain that is not there ends in one way.
use Rattle.std.proofs.Common.{◌≡◌, ◌≢◌, ◌⊎◌, inl, inr, ℕ, ◌≤◌, ◌<◌, List, ◌∷◌, ◌++◌, length, sym, ◌∙◌, subst, arith, Some}
use Rattle.std.proofs.lemmas.Bool.{cases_order}
use Rattle.page_list.specs.Pages.{Pages, HasPage, IsGood, times, Among}
use Rattle.page_list.specs.Chain.{HasWalked, BreaksAt, FailsAt, LeavesPages, MeetsAgain, OneEnd, holder, pages_needed}
use Rattle.page_list.proofs.ChainLemmas.{linked-same, linked-front, times-append, among-back, among-here}

-- a page that a shorter walk would go on with is gone over by a longer one
record GoneOver (pages : Pages) (before : List ℕ) (next : ℕ) : Type 0 where
  there : HasPage pages next
  is_good : IsGood pages next
  is_new : ¬ (Among before next)

gone_over : (pages : Pages) (first next next' : ℕ) (numbers before : List ℕ) → HasWalked pages first numbers next → HasWalked pages first before next'
    → length before < length numbers → GoneOver pages before next'
gone_over pages first next next' numbers before walked less fewer =
    let front = linked-front pages first next next' numbers before walked.linked less.linked fewer in
    let P : List ℕ → Type 0 = λ l. Among l next' in
    let Q : List ℕ → Type 0 = λ l. times next' l ≤ 1 in
    let once : times next' (before ++ next' ∷ front.0) ≤ 1 = subst Q front.1 (walked.different.once next') in
    let there = walked.each next' (subst P (sym front.1) (among-back next' before (next' ∷ front.0) (among-here next' front.0))) in
    record {
      there = there.0;
      is_good = there.1;
      is_new = λ met. let joined = times-append next' before (next' ∷ front.0) in let here = among-here next' front.0 in omega arith;
    }

-- a walk that breaks has gone over no more pages than are needed, and where it has gone over fewer the next page is not one
most : (pages : Pages) (first len page : ℕ) (b : BreaksAt pages first len page) → length b.numbers ≤ pages_needed pages.usable len
most pages first len page b = elim b.why [
  | inl short ↦ omega (arith, short.0)
  | inr late ↦ omega (arith, late.0)
]

not_gone : (pages : Pages) (first len page : ℕ) (b : BreaksAt pages first len page) → length b.numbers < pages_needed pages.usable len → ¬ (GoneOver pages b.numbers b.next)
not_gone pages first len page b fewer gone = elim b.why [
  | inl short ↦ elim short.1 [
    | inl leaves ↦ leaves.0 gone.there
    | inr again ↦ gone.is_new again.0
  ]
  | inr late ↦ omega (arith, late.0, fewer)
]

-- why a walk ends, as `BreaksAt` says it
abbrev Why : Pages → ℕ → ℕ → ℕ → List ℕ → ℕ → Type 0
Why pages first len page numbers next =
    ((length numbers < pages_needed pages.usable len) × (LeavesPages pages first numbers next page ⊎ MeetsAgain numbers next page))
    ⊎ ((length numbers ≡ pages_needed pages.usable len) × (next ≢ 0) × (page ≡ holder first numbers))

-- the pages that two ends over the same walk name
same_page : (pages : Pages) (first len page page' : ℕ) (numbers : List ℕ) (next : ℕ) → Why pages first len page numbers next → Why pages first len page' numbers next
    → ((n : ℕ) → Among numbers n → HasPage pages n × IsGood pages n) → page ≡ page'
same_page pages first len page page' numbers next (inl (short, inl leaves)) (inl (short', inl leaves')) each = leaves.1 ∙ sym leaves'.1
same_page pages first len page page' numbers next (inl (short, inl leaves)) (inl (short', inr again)) each = absurd (leaves.0 (each next again.0).0)
same_page pages first len page page' numbers next (inl (short, inr again)) (inl (short', inl leaves)) each = absurd (leaves.0 (each next again.0).0)
same_page pages first len page page' numbers next (inl (short, inr again)) (inl (short', inr again')) each = again.1 ∙ sym again'.1
same_page pages first len page page' numbers next (inl short) (inr late) each = absurd (omega (arith, short.0, late.0))
same_page pages first len page page' numbers next (inr late) (inl short) each = absurd (omega (arith, short.0, late.0))
same_page pages first len page page' numbers next (inr late) (inr late') each = late.2 ∙ sym late'.2

breaks_once : (pages : Pages) (first len page page' : ℕ) → BreaksAt pages first len page → BreaksAt pages first len page' → page ≡ page'
breaks_once pages first len page page' a b = elim (cases_order (length a.numbers) (length b.numbers)) [
  | inl same ↦
      let walks = linked-same pages first a.next b.next a.numbers b.numbers a.walked.linked b.walked.linked same in
      let P : List ℕ → Type 0 = λ l. Why pages first len page' l b.next in
      let Q : ℕ → Type 0 = λ n. Why pages first len page' a.numbers n in
      same_page pages first len page page' a.numbers a.next a.why (subst Q (sym walks.1) (subst P (sym walks.0) b.why)) a.walked.each
  | inr (inl less) ↦
      absurd (not_gone pages first len page a (omega (arith, less, most pages first len page' b)) (gone_over pages first b.next a.next b.numbers a.numbers b.walked a.walked less))
  | inr (inr more) ↦
      absurd (not_gone pages first len page' b (omega (arith, more, most pages first len page a)) (gone_over pages first a.next b.next a.numbers b.numbers a.walked b.walked more))
]

bad_not_good : (pages : Pages) (page : ℕ) (sums : ℕ × ℕ) → pages.bad page ≡ Some sums → ¬ (IsGood pages page)
bad_not_good pages page sums bad good = cc

fails_once : (pages : Pages) (first len page page' : ℕ) (sums sums' : ℕ × ℕ) → FailsAt pages first len page sums → FailsAt pages first len page' sums' → page ≡ page'
fails_once pages first len page page' sums sums' a b = elim (cases_order (length a.numbers) (length b.numbers)) [
  | inl same ↦ (linked-same pages first page page' a.numbers b.numbers a.walked.linked b.walked.linked same).1
  | inr (inl less) ↦ absurd (bad_not_good pages page sums a.fails (gone_over pages first page' page b.numbers a.numbers b.walked a.walked less).is_good)
  | inr (inr more) ↦ absurd (bad_not_good pages page' sums' b.fails (gone_over pages first page page' a.numbers b.numbers a.walked b.walked more).is_good)
]

not_both : (pages : Pages) (first len page page' : ℕ) (sums : ℕ × ℕ) → BreaksAt pages first len page → ¬ (FailsAt pages first len page' sums)
not_both pages first len page page' sums a b = elim (cases_order (length a.numbers) (length b.numbers)) [
  | inl same ↦
      let walks = linked-same pages first a.next page' a.numbers b.numbers a.walked.linked b.walked.linked same in
      let P : List ℕ → Type 0 = λ l. ¬ (Among l page') in
      let R : ℕ → Type 0 = λ n. ¬ (Among a.numbers n) in
      let H : ℕ → Type 0 = λ n. HasPage pages n in
      let again : ¬ (Among a.numbers a.next) = subst R (sym walks.1) (subst P (sym walks.0) b.again) in
      let there : HasPage pages a.next = subst H (sym walks.1) b.there in
      elim a.why [
        | inl short ↦ elim short.1 [
          | inl leaves ↦ leaves.0 there
          | inr met ↦ again met.0
        ]
        | inr late ↦ omega (arith, late.0, same, b.needed)
      ]
  | inr (inl less) ↦ not_gone pages first len page a (omega (arith, less, b.needed)) (gone_over pages first page' a.next b.numbers a.numbers b.walked a.walked less)
  | inr (inr more) ↦ bad_not_good pages page' sums b.fails (gone_over pages first a.next page' a.numbers b.numbers a.walked b.walked more).is_good
]

pub one_end_holds : OneEnd
one_end_holds = record { breaks_once = breaks_once; fails_once = fails_once; not_both = not_both }
