-- Walks along chains, page by page.
use Rattle.std.proofs.Common.{◌≡◌, ℕ, ◌+◌, ◌-◌, ◌*◌, ◌==◌, ◌↔◌, IsTrue, Bool, true, false, List, [], ◌∷◌, ◌++◌, length, refl, sym, ap, ◌∙◌, subst, arith, length-append, add-mul, one-mul, zero-mul}
use Rattle.std.proofs.lemmas.Bool.Decides.{nat_tests}
use Rattle.std.proofs.lemmas.List.{flat_map_more}
use Rattle.std.specs.List.{flat_map, list_any}
use Rattle.byteorder.specs.Endian.{big_number}
use Rattle.page_list.specs.Pages.{Pages, Among}
use Rattle.byte_base.specs.Numbers.{number_at}
use Rattle.page_list.specs.Chain.{HasWalked, next_page, piece}
use Rattle.page_list.proofs.ChainLemmas.{holder-more, walked-none, walked-more}
use Rattle.ref_pages.specs.ChainSteps.{IsCourse, GoesOn}

-- ---- a search in a list

-- it finds a number that stands there, and no other
pub found : (x : ℕ) (numbers : List ℕ) → list_any (λ y. y == x) numbers ≡ true → Among numbers x
found x [] h = cc
found x (n ∷ more) h = grind (arith, nat_tests, found x more)

pub not_found : (x : ℕ) (numbers : List ℕ) → list_any (λ y. y == x) numbers ≡ false → ¬ (Among numbers x)
not_found x [] h = λ some. omega arith
not_found x (n ∷ more) h = grind (arith, nat_tests, not_found x more)

pub searched : (x : ℕ) (numbers : List ℕ) (answer : Bool) → answer ≡ list_any (λ y. y == x) numbers → IsTrue answer ↔ Among numbers x
searched x numbers true is = (λ _. found x numbers (sym is), λ _. refl)
searched x numbers false is = (λ none. cc, λ some. absurd (not_found x numbers (sym is) some))

-- ---- how far a walk has come

pieces-more : (pages : Pages) (x : ℕ) (numbers : List ℕ) → flat_map (piece pages) (numbers ++ x ∷ []) ≡ flat_map (piece pages) numbers ++ piece pages x
pieces-more pages x numbers = sym (flat_map_more (piece pages) [] numbers x)

pub begins : (pages : Pages) (first : ℕ) → IsCourse pages first [] first first []
begins pages first = record {
  walked = walked-none pages first;
  held = refl;
  holds = refl;
  long = sym (zero-mul (pages.usable - 4));
}

pub goes_on : (pages : Pages) (first last next after : ℕ) (numbers payload more : List ℕ) → IsCourse pages first numbers last next payload
    → GoesOn pages numbers next → after ≡ next_page pages next → more ≡ payload ++ piece pages next
    → length more ≡ length payload + (pages.usable - 4) → IsCourse pages first (numbers ++ next ∷ []) next after more
goes_on pages first last next after numbers payload more course on after_is more_is long = record {
  walked = subst (λ (n : ℕ). HasWalked pages first (numbers ++ next ∷ []) n) (sym after_is) (walked-more pages first next numbers course.walked on.there on.good on.new);
  held = sym (holder-more first next numbers);
  holds = more_is ∙ ap (λ (p : List ℕ). p ++ piece pages next) course.holds ∙ sym (pieces-more pages next numbers);
  long = let p = pages.usable - 4 in
      long ∙ ap (λ n. n + p) course.long ∙ ap (λ n. length numbers * p + n) (sym (one-mul p)) ∙ sym (add-mul (length numbers) 1 p)
      ∙ ap (λ n. n * p) (sym (length-append numbers (next ∷ [])));
}

-- the number in the first four bytes
pub first_number : (bytes : List ℕ) → big_number 4 bytes ≡ number_at 4 bytes 0
unfolding number_at
first_number bytes = refl
