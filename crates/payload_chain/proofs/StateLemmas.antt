-- From one state of a space to the next.
use Rattle.std.proofs.Common.{◌≡◌, ℕ, ◌≤◌, List, refl, ◌∙◌, subst, arith}
use Rattle.byte_base.specs.Count.{Rose}
use Rattle.page_list.specs.Pages.{Pages, HasPage}
use Rattle.page_pool.specs.Space.{SpaceState, HasSizes, Steady, Stays}
use Rattle.payload_chain.specs.Chains.{Midway, midway, HasEach}

pub steady-same : {a : SpaceState} → HasSizes a → Steady a a
steady-same sizes = record { told = refl; sized = refl; used = refl; is_ready = λ h. h; is_writable = λ h. h; counted = omega arith; sizes = sizes }

pub steady-on : {a b c : SpaceState} → Steady a b → Steady b c → Steady a c
steady-on p q = record {
  told = q.told ∙ p.told;
  sized = q.sized ∙ p.sized;
  used = q.used ∙ p.used;
  is_ready = λ h. q.is_ready (p.is_ready h);
  is_writable = λ h. q.is_writable (p.is_writable h);
  counted = omega (arith, p.counted, q.counted);
  sizes = q.sizes;
}

pub stays-same : {a : SpaceState} → Stays a a
stays-same = record { number = refl; change = refl; pages_stay = λ t. refl }

pub stays-on : {a b c : SpaceState} → Steady a b → Stays a b → Stays b c → Stays a c
stays-on s p q = record { number = q.number ∙ p.number; change = q.change ∙ p.change; pages_stay = λ t. q.pages_stay (s.told ∙ t) ∙ p.pages_stay t }

pub rose-on : (a b c : ℕ) → a ≤ b → Rose b c → Rose a c
rose-on a b c up rose = omega arith

pub page-later : (old now : Pages) (n : ℕ) → old.size ≤ now.size → HasPage old n → HasPage now n
page-later old now n more there = record { least = there.least; most = omega (arith, there.most) }

pub each-later : (old now : Pages) (numbers : List ℕ) → old.size ≤ now.size → HasEach old numbers → HasEach now numbers
each-later old now numbers more has = record { each = λ n among. page-later old now n more (has.each n among) }

-- a state, as it is said to be midway from another
abbrev pub here : SpaceState → Midway
here b = record { pages = b.pages; changed = b.changed; faults = b.faults }

pub steady-here : {a b : SpaceState} → Steady a b → Steady a (midway a (here b))
steady-here p = record {
  told = refl;
  sized = refl;
  used = p.used;
  is_ready = λ h. h;
  is_writable = λ h. h;
  counted = p.counted;
  sizes = let s = p.sizes in let e = p.sized in record {
    size_of_page = rw e at s.size_of_page;
    least = s.least;
    most = rw e at s.most;
    spare = rw e at s.spare;
    few = rw e at s.few;
    each = λ t. rw e at (s.each (p.told ∙ t));
  };
}

pub stays-here : {a b c : SpaceState} → Steady a b → Stays b c → Stays (midway a (here b)) c
stays-here p s = record { number = s.number; change = s.change; pages_stay = λ t. s.pages_stay (p.told ∙ t) }

-- what is said of a page size and pages, of the same
pub at_same : (P : ℕ → Pages → Type 0) {m n : ℕ} {p q : Pages} → m ≡ n → p ≡ q → P m p → P n q
at_same P {n = n} {p = p} d e h = let Q : ℕ → Type 0 = λ k. P k p in subst (λ (r : Pages). P n r) e (subst Q d h)
