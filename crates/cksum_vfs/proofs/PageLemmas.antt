-- What a layer shows of bytes in pages, and which pages fail.
use Rattle.std.proofs.Common.{◌≡◌, ◌⊎◌, ℕ, zero, suc, ◌+◌, ◌-◌, ◌*◌, ◌%◌, ◌<◌, ◌≤◌, true, false, not, ◌&&◌, ◌||◌, nat_lt, nat_le, if◌then◌else◌, List, [], ◌∷◌, ◌++◌, length, take, drop, replicate, slice_get, min, Option, Some, None, inl, inr, refl, ap, sym, ◌∙◌, arith}
use Rattle.std.proofs.lemmas.List.{length-take, length-drop}
use Rattle.std.proofs.lemmas.Bool.{lt-ltb, le-ltb, le-leb, lt-leb}
use Rattle.vfs_model.specs.Places.{get-drop}
use Rattle.vfs_model.specs.Sums.{kept_size, page_at, fails, without_sums, is_complete}
use Rattle.cksum_vfs.specs.Page.{other_sums, page_bad}
use Rattle.cksum_vfs.proofs.RowLemmas.{next_page}

-- the byte that is shown of one
abbrev pub shown : ℕ → ℕ → ℕ → ℕ
shown page place b = if nat_le page (place % page + kept_size) then 0 else b

abbrev pub shown_of : ℕ → ℕ → Option ℕ → Option ℕ
shown_of page place None = None
shown_of page place (Some b) = Some (shown page place b)

pub length_without : (page place : ℕ) (bytes : List ℕ) → length (without_sums page place bytes) ≡ length bytes
length_without page place [] = refl
length_without page place (b ∷ bytes) = ap suc (length_without page (suc place) bytes)

pub get_without : (page place : ℕ) (bytes : List ℕ) (i : ℕ) → slice_get (without_sums page place bytes) i ≡ shown_of page (place + i) (slice_get bytes i)
get_without page place [] i = refl
get_without page place (b ∷ bytes) zero = let e : place ≡ place + 0 = omega arith in ap (λ n. Some (shown page n b)) e
get_without page place (b ∷ bytes) (suc i) =
    let e : suc place + i ≡ place + suc i = omega arith in
    get_without page (suc place) bytes i ∙ ap (λ n. shown_of page n (slice_get bytes i)) e

pub get_shown : (page : ℕ) (bytes : List ℕ) (i : ℕ) → slice_get (without_sums page 0 bytes) i ≡ shown_of page i (slice_get bytes i)
get_shown page bytes i = let e : 0 + i ≡ i = omega arith in get_without page 0 bytes i ∙ ap (λ n. shown_of page n (slice_get bytes i)) e

-- where two files have the same byte, the same is shown
pub same_shown : (page : ℕ) (a b : List ℕ) (i : ℕ) → slice_get a i ≡ slice_get b i → slice_get (without_sums page 0 a) i ≡ slice_get (without_sums page 0 b) i
same_shown page a b i same = get_shown page a i ∙ ap (shown_of page i) same ∙ sym (get_shown page b i)

-- a page as far as it lies in a file
abbrev pub part : ℕ → List ℕ → ℕ → List ℕ
part page bytes number = take page (drop (page * number) bytes)

-- with zeros in place of what the file lacks
abbrev pub padded : ℕ → List ℕ → List ℕ
padded page own = own ++ replicate (page - length own) 0

two_lt : (a b c d : ℕ) → (a < b → c < d) → (c < d → a < b) → nat_lt a b ≡ nat_lt c d
two_lt a b c d to back = elim (side a b) as (λ _. nat_lt a b ≡ nat_lt c d) [
  | inl h ↦ lt-ltb a b h ∙ sym (lt-ltb c d (to h))
  | inr h ↦ le-ltb a b h ∙ sym (le-ltb c d (elim (side c d) as (λ _. d ≤ c) [ inl k ↦ absurd (omega (arith, back k, h)) | inr k ↦ k ]))
] where
  side : (a b : ℕ) → (a < b) ⊎ (b ≤ a)
  side a b = grind arith

two_le : (a b c d : ℕ) → (a ≤ b → c ≤ d) → (c ≤ d → a ≤ b) → nat_le a b ≡ nat_le c d
two_le a b c d to back = elim (side a b) as (λ _. nat_le a b ≡ nat_le c d) [
  | inl h ↦ le-leb a b h ∙ sym (le-leb c d (to h))
  | inr h ↦ lt-leb a b h ∙ sym (lt-leb c d (elim (side c d) as (λ _. d < c) [ inl k ↦ absurd (omega (arith, back k, h)) | inr k ↦ k ]))
] where
  side : (a b : ℕ) → (a ≤ b) ⊎ (b < a)
  side a b = grind arith

pub length_part : (page number : ℕ) (bytes : List ℕ) → length (part page bytes number) ≡ min page (length bytes - page * number)
length_part page number bytes = length-take page (drop (page * number) bytes) ∙ ap (min page) (length-drop (page * number) bytes)

-- whether a page fails is seen from the page alone
pub fails_part : (page number : ℕ) (bytes : List ℕ) → 1 ≤ page → fails page bytes number ≡ page_bad page (padded page (part page bytes number)) (length (part page bytes number))
fails_part page number bytes some =
    let size : length (part page bytes number) ≡ min page (length bytes - page * number) = length_part page number bytes in
    let next : page * (number + 1) ≡ page * number + page = next_page page number in
    let begun : nat_lt (page * number) (length bytes) ≡ nat_lt 0 (length (part page bytes number)) =
    two_lt (page * number) (length bytes) 0 (length (part page bytes number)) (λ h. omega (arith, size, h, some)) (λ h. omega (arith, size, h)) in
    let whole : is_complete page bytes number ≡ nat_le page (length (part page bytes number)) =
    two_le (page * (number + 1)) (length bytes) page (length (part page bytes number)) (λ h. omega (arith, size, h, next)) (λ h. omega (arith, size, h, next, some)) in
    ap (λ b. b && (not (is_complete page bytes number) || other_sums page (page_at page bytes number))) begun
    ∙ ap (λ b. nat_lt 0 (length (part page bytes number)) && (not b || other_sums page (page_at page bytes number))) whole

pub take_same : (n : ℕ) (a b : List ℕ) → ((i : ℕ) → i < n → slice_get a i ≡ slice_get b i) → take n a ≡ take n b
take_same zero a b same = refl
take_same (suc n) [] [] same = refl
take_same (suc n) [] (y ∷ b) same = let wrong : None ≡ Some y = same 0 (omega arith) in cc
take_same (suc n) (x ∷ a) [] same = let wrong : Some x ≡ None = same 0 (omega arith) in cc
take_same (suc n) (x ∷ a) (y ∷ b) same =
    let head : Some x ≡ Some y = same 0 (omega arith) in
    let first : x ≡ y = cc in
    let rest : take n a ≡ take n b = take_same n a b (λ i less. same (suc i) (omega (arith, less))) in
    ap (λ z. z ∷ take n a) first ∙ ap (λ zs. y ∷ zs) rest

-- two files have the same page
pub record SamePage (page number : ℕ) (a b : List ℕ) : Type 0 where
  pub each : (place : ℕ) → page * number ≤ place → place < page * number + page → slice_get a place ≡ slice_get b place

pub same_part : (page number : ℕ) (a b : List ℕ) → SamePage page number a b → part page a number ≡ part page b number
same_part page number a b same = take_same page (drop (page * number) a) (drop (page * number) b) (λ i less.
    get-drop a (page * number) i ∙ same.each (page * number + i) (omega arith) (omega (arith, less)) ∙ sym (get-drop b (page * number) i))

pub same_fails : (page number : ℕ) (a b : List ℕ) → 1 ≤ page → SamePage page number a b → fails page a number ≡ fails page b number
same_fails page number a b some same =
    fails_part page number a some ∙ ap (λ own. page_bad page (padded page own) (length own)) (same_part page number a b same) ∙ sym (fails_part page number b some)

-- a page that has begun and is not whole fails
pub short_fails : (page number : ℕ) (bytes : List ℕ) → page * number < length bytes → length bytes < page * (number + 1) → fails page bytes number ≡ true
short_fails page number bytes begun short =
    let first : nat_lt (page * number) (length bytes) ≡ true = lt-ltb (page * number) (length bytes) begun in
    let whole : is_complete page bytes number ≡ false = lt-leb (page * (number + 1)) (length bytes) short in
    ap (λ b. b && (not (is_complete page bytes number) || other_sums page (page_at page bytes number))) first
    ∙ ap (λ b. true && (not b || other_sums page (page_at page bytes number))) whole
