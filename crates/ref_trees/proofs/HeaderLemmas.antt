-- The header on page 1 with zeros for its size.
use Rattle.std.proofs.Common.{◌≡◌, ◌↔◌, ℕ, zero, suc, ◌+◌, ◌*◌, ◌-◌, ◌≤◌, ◌<◌, nat_eq, false, IsTrue, IsOk, List, [], ◌∷◌, ◌++◌, length, take, drop, get_or, Option, None, Result, refl, sym, ap, ap₂, subst, ◌∙◌, arith, tests, length-append, length-drop, is_some, Some, lit<}
use Rattle.std.proofs.lemmas.List.{get_or_append_left, get_or-drop, get_or-take, length-take, length-take-le, ext_get_or}
use Rattle.std.proofs.lemmas.Bool.{false≢true, eq-eqb}
use Rattle.std.proofs.Math.Seq.{get_or-append_right}
use Rattle.page_list.specs.Pages.{Pages, HasPage, IsGood}
use Rattle.db_format.specs.Header.{header_of, page_of, HeaderInFront}
use Rattle.byte_base.specs.Numbers.{number_at}
use Rattle.db_format.specs.declared.header.Header.{Header}
use Rattle.db_format.specs.declared.header.HeaderFault.{HeaderFault}
use Rattle.tree_model.specs.Whole.{HasHeader, unsized_header}
use Rattle.ref_trees.specs.ForestSteps.{without_size}

pub unsized_long : (bytes : List ℕ) → 100 ≤ length bytes → 100 ≤ length (without_size bytes)
unsized_long bytes long =
    omega (arith, length-append (take 28 bytes ++ 0 ∷ 0 ∷ 0 ∷ 0 ∷ []) (drop 32 bytes), length-append (take 28 bytes) (0 ∷ 0 ∷ 0 ∷ 0 ∷ drop 32 bytes), length-take-le 28 bytes (omega (arith, long)), length-drop 32 bytes)

pub front_is : (first bytes : List ℕ) → length first ≡ 100 → 100 ≤ length bytes → ((k : ℕ) → k < 100 → get_or first k 0 ≡ get_or (without_size bytes) k 0) → first ≡ take 100 (without_size bytes)
front_is first bytes size long each =
    let whole = without_size bytes in
    ext_get_or 0 first (take 100 whole) (size ∙ sym (length-take-le 100 whole (unsized_long bytes long)))
    (λ k within. each k (omega (arith, within, size)) ∙ sym (get_or-take 100 whole k 0 (omega (arith, within, size))))

-- what was read of page 1
pub record IsRead (pages : Pages) (first : List ℕ) (page len : ℕ) (r : Result Header HeaderFault) : Type 0 where
  pub there : HasPage pages 1
  pub good : IsGood pages 1
  pub first_is : first ≡ take 100 (unsized_header pages)
  pub page_is : page ≡ page_of first
  pub len_is : len ≡ page * pages.size
  pub read : r ≡ header_of first len None

two_front : (bytes : List ℕ) → number_at 2 (take 100 bytes) 16 ≡ number_at 2 bytes 16
unfolding number_at
two_front bytes =
    let p0 : get_or (drop 16 (take 100 bytes)) 0 0 ≡ get_or (drop 16 bytes) 0 0 = get_or-drop 16 (take 100 bytes) 0 0 ∙ get_or-take 100 bytes 16 0 (lit< tt) ∙ sym (get_or-drop 16 bytes 0 0) in
    let p1 : get_or (drop 16 (take 100 bytes)) 1 0 ≡ get_or (drop 16 bytes) 1 0 = get_or-drop 16 (take 100 bytes) 1 0 ∙ get_or-take 100 bytes 17 0 (lit< tt) ∙ sym (get_or-drop 16 bytes 1 0) in
    omega (arith, p0, p1)

-- the page size stands in the first 100 bytes
page_front : (bytes : List ℕ) → page_of (take 100 bytes) ≡ page_of bytes
unfolding page_of
page_front bytes = let two = two_front bytes in cc

page_same : (pages : Pages) (first : List ℕ) (page len : ℕ) (r : Result Header HeaderFault) → IsRead pages first page len r → page ≡ page_of (unsized_header pages)
page_same pages first page len r h =
    h.page_is ∙ ap page_of h.first_is ∙ page_front (unsized_header pages)

accepted_is : HeaderInFront → (pages : Pages) (first : List ℕ) (page len : ℕ) (r : Result Header HeaderFault) → IsRead pages first page len r
    → r ≡ header_of (unsized_header pages) (page_of (unsized_header pages) * pages.size) None
accepted_is front pages first page len r h =
    h.read ∙ ap₂ (λ (b : List ℕ) (n : ℕ). header_of b n None) h.first_is (h.len_is ∙ ap (λ n. n * pages.size) (page_same pages first page len r h))
    ∙ front (unsized_header pages) (page_of (unsized_header pages) * pages.size) None

pub refused : HeaderInFront → (pages : Pages) (first : List ℕ) (page len : ℕ) (r : Result Header HeaderFault) → IsRead pages first page len r
    → ¬ (IsOk r) → ¬ (HasHeader pages)
refused front pages first page len r h bad has =
    let P : Result Header HeaderFault → Type 0 = IsOk in
    bad (subst P (sym (accepted_is front pages first page len r h)) has.accepted)

reserve_same : (pages : Pages) (first : List ℕ) → first ≡ take 100 (unsized_header pages) → get_or first 20 0 ≡ get_or (unsized_header pages) 20 0
reserve_same pages first is = ap (λ (b : List ℕ). get_or b 20 0) is ∙ get_or-take 100 (unsized_header pages) 20 0 (lit< tt)

pub accepted : HeaderInFront → (pages : Pages) (first : List ℕ) (page len usable reserved : ℕ) (r : Result Header HeaderFault) → IsRead pages first page len r
    → IsOk r → usable ≡ pages.usable → reserved ≡ get_or first 20 0 → reserved < 256 → IsTrue (nat_eq page (usable + reserved)) ↔ HasHeader pages
accepted front pages first page len usable reserved r h ok usable_is reserved_is small =
    let sum : usable + reserved ≡ pages.usable + get_or (unsized_header pages) 20 0 = ap₂ (λ (m n : ℕ). m + n) usable_is (reserved_is ∙ reserve_same pages first h.first_is) in
    let P : Result Header HeaderFault → Type 0 = IsOk in (
      λ is.
          let same : page ≡ usable + reserved = grind (arith, tests, is) in
          record {
            there = h.there;
            good = h.good;
            accepted = subst P (accepted_is front pages first page len r h) ok;
            used = sym (page_same pages first page len r h) ∙ same ∙ sum;
            reserve = omega (arith, reserved_is ∙ reserve_same pages first h.first_is, small);
          },
      λ has.
          let same : page ≡ usable + reserved = page_same pages first page len r h ∙ has.used ∙ sym sum in
          eq-eqb page (usable + reserved) same,
    )

-- ---- byte by byte

in_zeros : (rest : List ℕ) (k : ℕ) → k < 4 → get_or (0 ∷ 0 ∷ 0 ∷ 0 ∷ rest) k 0 ≡ 0
in_zeros rest zero low = refl
in_zeros rest (suc zero) low = refl
in_zeros rest (suc (suc zero)) low = refl
in_zeros rest (suc (suc (suc zero))) low = refl
in_zeros rest (suc (suc (suc (suc k)))) low = absurd (omega arith)

behind_zeros : (rest : List ℕ) (k : ℕ) → 4 ≤ k → get_or (0 ∷ 0 ∷ 0 ∷ 0 ∷ rest) k 0 ≡ get_or rest (k - 4) 0
behind_zeros rest zero high = absurd (omega arith)
behind_zeros rest (suc zero) high = absurd (omega arith)
behind_zeros rest (suc (suc zero)) high = absurd (omega arith)
behind_zeros rest (suc (suc (suc zero))) high = absurd (omega arith)
behind_zeros rest (suc (suc (suc (suc k)))) high = let e : k ≡ suc (suc (suc (suc k))) - 4 = omega arith in ap (λ n. get_or rest n 0) e

pub before_size : (bytes : List ℕ) (k : ℕ) → k < length bytes → k < 28 → get_or bytes k 0 ≡ get_or (without_size bytes) k 0
before_size bytes k within low =
    sym (get_or-take 28 bytes k 0 low) ∙ sym (get_or_append_left (take 28 bytes) (0 ∷ 0 ∷ 0 ∷ 0 ∷ drop 32 bytes) 0 k (omega (arith, length-take 28 bytes)))

cut_at : (bytes : List ℕ) (k : ℕ) → 28 ≤ length bytes → 28 ≤ k → get_or (without_size bytes) k 0 ≡ get_or (0 ∷ 0 ∷ 0 ∷ 0 ∷ drop 32 bytes) (k - 28) 0
cut_at bytes k long high =
    let size : length (take 28 bytes) ≡ 28 = length-take-le 28 bytes long in
    get_or-append_right (take 28 bytes) (0 ∷ 0 ∷ 0 ∷ 0 ∷ drop 32 bytes) k 0 (omega (arith, size)) ∙ ap (λ n. get_or (0 ∷ 0 ∷ 0 ∷ 0 ∷ drop 32 bytes) (k - n) 0) size

pub at_size : (bytes : List ℕ) (k : ℕ) → k < length bytes → 28 ≤ k → k < 32 → 0 ≡ get_or (without_size bytes) k 0
at_size bytes k within high low = sym (cut_at bytes k (omega arith) high ∙ in_zeros (drop 32 bytes) (k - 28) (omega arith))

pub behind_size : (bytes : List ℕ) (k : ℕ) → k < length bytes → 32 ≤ k → get_or bytes k 0 ≡ get_or (without_size bytes) k 0
behind_size bytes k within high =
    let place : 32 + (k - 28 - 4) ≡ k = omega arith in
    sym (cut_at bytes k (omega arith) (omega arith) ∙ behind_zeros (drop 32 bytes) (k - 28) (omega arith) ∙ get_or-drop 32 bytes (k - 28 - 4) 0 ∙ ap (λ n. get_or bytes n 0) place)

pub none_of : {X : Type 0} (o : Option X) → is_some o ≡ false → o ≡ None
none_of None e = refl
none_of (Some x) e = absurd (false≢true (sym e))
