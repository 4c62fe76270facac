-- Pages that were searched whole and have nothing.
use Rattle.std.proofs.Common.{◌≡◌, ℕ, zero, suc, cond, Bool, true, false, ℤ, IsTrue, inl, inr, refl, subst, ◌∙◌, arith}
use Rattle.std.proofs.lemmas.Bool.Decides.{nat_tests}
use Rattle.std.specs.BTreeMap.{is_at}
use Rattle.std.specs.BTreeSet.{BTreeSet, contains, Updates}
use Rattle.page_list.specs.Pages.{Pages}
use Rattle.page_pool.specs.Space.{SpaceState, Steady, Stays}
use Rattle.tree_model.specs.declared.ends.Next.TheVariants.{Nothing}
use Rattle.tree_model.specs.Whole.{below_all}
use Rattle.tree_model.specs.Walk.{Seeks}
use Rattle.tree_search.specs.Steps.{HasSought, depth_cmp, AreEmpty}

-- a page that has nothing has nothing wherever its number stands
nothing_seeks : (left : ℕ) (pages : Pages) (key : ℤ) (above above' : ℕ) (from : ℤ) (page : ℕ) → Seeks left pages key above from page Nothing → Seeks left pages key above' from page Nothing
nothing_seeks zero pages key above above' from page seeks = let never = seeks.2 in cc
nothing_seeks (suc left) pages key above above' from page (inl seeks) = let never = seeks.2 in cc
nothing_seeks (suc left) pages key above above' from page (inr (inl seeks)) = inr (inl seeks)
nothing_seeks (suc left) pages key above above' from page (inr (inr seeks)) = inr (inr seeks)

-- the place of one page among others
same_place : (left page l p : ℕ) → is_at (depth_cmp (left, page)) (l, p) ≡ true → (left ≡ l) × (page ≡ p)
same_place left page l p is = (grind (arith, nat_tests), grind (arith, nat_tests))

one_more : (pages : Pages) (key : ℤ) (empty now : BTreeSet (ℕ × ℕ)) (left above page l p a : ℕ) (test : Bool) → is_at (depth_cmp (left, page)) (l, p) ≡ test → AreEmpty pages key empty
    → HasSought left pages key above below_all page Nothing → IsTrue (cond test true (contains depth_cmp empty (l, p))) → HasSought l pages key a below_all p Nothing
one_more pages key empty now left above page l p a true is before sought has =
    let same = same_place left page l p is in
    let P : ℕ → Type 0 = λ n. HasSought n pages key a below_all p Nothing in
    let Q : ℕ → Type 0 = λ n. HasSought left pages key a below_all n Nothing in
    subst P same.0 (subst Q same.1 (record { seeks = nothing_seeks left pages key above a below_all page sought.seeks }))
one_more pages key empty now left above page l p a false is before sought has = before.each l p a has

pub empty_more : (pages : Pages) (key : ℤ) (empty now : BTreeSet (ℕ × ℕ)) (left above page : ℕ) → AreEmpty pages key empty → HasSought left pages key above below_all page Nothing
    → Updates depth_cmp empty now (left, page) true → AreEmpty pages key now
empty_more pages key empty now left above page before sought updates = record {
  each = λ l p a has.
      let P : Bool → Type 0 = λ b. IsTrue b in
      one_more pages key empty now left above page l p a (is_at (depth_cmp (left, page)) (l, p)) refl before sought (subst P (updates.0 (l, p)) has);
}

-- from one state to the next
pub empty_on : (old mid : SpaceState) (key key' : ℤ) (empty : BTreeSet (ℕ × ℕ)) → Steady old mid → Stays old mid → key' ≡ key → IsTrue old.tells
    → (IsTrue mid.tells → AreEmpty mid.pages key' empty) → AreEmpty old.pages key empty
empty_on old mid key key' empty steady stays same t are =
    let P : Pages → Type 0 = λ p. AreEmpty p key' empty in
    let Q : ℤ → Type 0 = λ k. AreEmpty old.pages k empty in
    subst Q same (subst P (stays.pages_stay t) (are (steady.told ∙ t)))
