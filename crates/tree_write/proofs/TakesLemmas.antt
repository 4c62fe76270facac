-- Pages taken by one step after the other.
use Rattle.std.proofs.Common.{◌≡◌, ℕ, zero, suc, ◌+◌, ◌≤◌, ◌<◌, List, [], ◌∷◌, ◌++◌, length, refl, sym, ap, subst, ◌∙◌, arith}
use Rattle.page_list.specs.Pages.{Pages}
use Rattle.page_list.specs.Edits.{taken_number, after_take, taken_numbers, after_takes}
use Rattle.page_pool.specs.Space.{SpaceState}
use Rattle.payload_chain.specs.Chains.{MayTakeEach, TookEach, StopsTaking, midway}
use Rattle.payload_chain.proofs.StateLemmas.{steady-on, at_same}
use Rattle.payload_chain.proofs.TakeLemmas.{stops-taking}
use Rattle.page_cut.specs.declared.parts.Sheet.{Sheet}
use Rattle.tree_plan.specs.Law.{AreNumbered}
use Rattle.db_format.specs.declared.fault.SpaceFault.{SpaceFault}
use Rattle.db_format.specs.declared.fault.SpaceFault.TheVariants.{Memory}

after-on : (page_size a b : ℕ) (pages : Pages) → after_takes page_size (a + b) pages ≡ after_takes page_size b (after_takes page_size a pages)
after-on page_size zero b pages = let e : 0 + b ≡ b = omega arith in ap (λ n. after_takes page_size n pages) e
after-on page_size (suc a) b pages =
    let e : suc a + b ≡ suc (a + b) = omega arith in ap (λ n. after_takes page_size n pages) e ∙ after-on page_size a b (after_take page_size pages)

pub numbers-on : (page_size a b : ℕ) (pages : Pages)
    → taken_numbers page_size (a + b) pages ≡ taken_numbers page_size a pages ++ taken_numbers page_size b (after_takes page_size a pages)
numbers-on page_size zero b pages = let e : 0 + b ≡ b = omega arith in ap (λ n. taken_numbers page_size n pages) e
numbers-on page_size (suc a) b pages =
    let e : suc a + b ≡ suc (a + b) = omega arith in
    ap (λ n. taken_numbers page_size n pages) e ∙ ap (λ l. taken_number pages ∷ l) (numbers-on page_size a b (after_take page_size pages))

may-on : (page_size a b : ℕ) (pages : Pages) → MayTakeEach page_size a pages → MayTakeEach page_size b (after_takes page_size a pages) → MayTakeEach page_size (a + b) pages
may-on page_size zero b pages first next =
    let e : b ≡ 0 + b = omega arith in let P : ℕ → Type 0 = λ n. MayTakeEach page_size n pages in subst P e next
may-on page_size (suc a) b pages first next =
    let e : suc (a + b) ≡ suc a + b = omega arith in
    let P : ℕ → Type 0 = λ n. MayTakeEach page_size n pages in
    subst P e (first.0, first.1, may-on page_size a b (after_take page_size pages) first.2 next)

-- some pages were taken, and then some more
pub took-on : {old mid new : SpaceState} {a b : ℕ} → TookEach old mid a → TookEach mid new b → TookEach old new (a + b)
took-on {old = old} {mid = mid} {new = new} {a = a} {b = b} first next = record {
  steady = steady-on first.steady next.steady;
  no_fewer = omega (arith, first.no_fewer, next.no_fewer);
  no_more = omega (arith, first.no_more, next.no_more);
  may = λ t.
      may-on old.page_size a b old.pages (first.may t)
      (at_same (λ n p. MayTakeEach n b p) first.steady.sized (first.pages_are t) (next.may (first.steady.told ∙ t)));
  pages_are = λ t.
      next.pages_are (first.steady.told ∙ t) ∙ (λ i. after_takes (first.steady.sized i) b (first.pages_are t i)) ∙ sym (after-on old.page_size a b old.pages);
}

pub stops-on : {old mid : SpaceState} {a needed : ℕ} (new : SpaceState) (most : ℕ) (fault : SpaceFault) → TookEach old mid a → StopsTaking mid new needed fault
    → a + needed ≤ most → StopsTaking old new most fault
stops-on {mid = mid} new most fault took stops few =
    let fewer = stops.fewer in stops-taking {now = midway mid stops.met} new most fault (took-on took stops.took) (omega arith) stops.refused

-- there was no memory for the next step
pub stops-memory : {old new : SpaceState} {a : ℕ} (most : ℕ) → TookEach old new a → a < most → StopsTaking old new most Memory
stops-memory {new = new} most took fewer =
    stops-taking new most Memory took fewer (record { size = refl; only = λ t. record { size = refl; each = λ n a b. record { bytes_stay = refl; mark_stays = refl } } })

pub numbered-long : (front placed : List Sheet) → AreNumbered front placed → length placed ≡ length front
numbered-long [] [] are = refl
numbered-long [] (t ∷ others) are = absurd are
numbered-long (s ∷ more) [] are = absurd are
numbered-long (s ∷ more) (t ∷ others) are = ap (λ n. suc n) (numbered-long more others are.2)
