-- A number in four bytes of a page, read where it was put and beside it.
use Rattle.std.proofs.Common.{◌≡◌, ◌⊎◌, inl, inr, ℕ, zero, suc, ◌+◌, ◌-◌, ◌*◌, ◌^◌, ◌≤◌, ◌<◌, List, []}
use Rattle.std.proofs.Common.{◌++◌, length, get_or, slice_index, take, drop, replicate, refl, sym, ap, ◌∙◌, arith, length-append, length-drop}
use Rattle.std.proofs.lemmas.List.{drop_at, get_or_append_left, get_or-append_right, get_or-take, get_or-drop, length-take-le, length-replicate}
use Rattle.byteorder.specs.Endian.{big_bytes, big_from, big_number}
use Rattle.byteorder.specs.Numbers.{big_number-reads_back, length-bytes_high_first}
use Rattle.byte_base.specs.Numbers.{number_at, with_number}
use Rattle.page_list.specs.Edits.{cleared}

-- a number is the same where its bytes are
same_from : (i n : ℕ) (xs ys : List ℕ) → ((k : ℕ) → i ≤ k → k < i + n → get_or xs k 0 ≡ get_or ys k 0) → big_from i n xs ≡ big_from i n ys
same_from i zero xs ys same = refl
same_from i (suc n) xs ys same =
    ap (λ b. b * 256 ^ n + big_from (suc i) n xs) (same i (omega arith) (omega arith))
    ∙ ap (λ m. get_or ys i 0 * 256 ^ n + m) (same_from (suc i) n xs ys (λ k low high. same k (omega arith) (omega arith)))

pub same_number : (place : ℕ) (xs ys : List ℕ) → ((k : ℕ) → place ≤ k → k < place + 4 → slice_index xs k ≡ slice_index ys k)
    → number_at 4 xs place ≡ number_at 4 ys place
unfolding number_at
same_number place xs ys same =
    same_from 0 4 (drop place xs) (drop place ys)
    (λ k low high. get_or-drop place xs k 0 ∙ same (place + k) (omega arith) (omega arith) ∙ sym (get_or-drop place ys k 0))

-- a number put at a place: the bytes stay as many, it is read there, and beside it nothing has changed
pub with-long : (place number : ℕ) (bytes : List ℕ) → place + 4 ≤ length bytes → length (with_number 4 place number bytes) ≡ length bytes
unfolding with_number
with-long place number bytes room =
    let front : length (take place bytes) ≡ place = length-take-le place bytes (omega arith) in
    let count : length (big_bytes 4 number) ≡ 4 = length-bytes_high_first 4 number in
    let rest : List ℕ = drop (place + 4) bytes in
    omega (arith, length-append (take place bytes) (big_bytes 4 number ++ rest), length-append (big_bytes 4 number) rest, length-drop (place + 4) bytes)

pub with-there : (place number : ℕ) (bytes : List ℕ) → number < 4294967296 → place + 4 ≤ length bytes → number_at 4 (with_number 4 place number bytes) place ≡ number
unfolding number_at with_number
with-there place number bytes fits room =
    ap (big_number 4) (drop_at (take place bytes) (big_bytes 4 number ++ drop (place + 4) bytes) place (length-take-le place bytes (omega arith)))
    ∙ big_number-reads_back 4 number (drop (place + 4) bytes) fits

pub with-beside : (place number : ℕ) (bytes : List ℕ) (other : ℕ) → place + 4 ≤ length bytes → (other < place) ⊎ (place + 4 ≤ other)
    → slice_index (with_number 4 place number bytes) other ≡ slice_index bytes other
unfolding with_number
with-beside place number bytes other room out =
    let front : length (take place bytes) ≡ place = length-take-le place bytes (omega arith) in
    let count : length (big_bytes 4 number) ≡ 4 = length-bytes_high_first 4 number in
    let rest : List ℕ = drop (place + 4) bytes in
    elim out [
      | inl before ↦ get_or_append_left (take place bytes) (big_bytes 4 number ++ rest) 0 other (omega arith) ∙ get_or-take place bytes other 0 before
      | inr behind ↦
          get_or-append_right (take place bytes) (big_bytes 4 number ++ rest) place other 0 front (omega arith)
          ∙ get_or-append_right (big_bytes 4 number) rest 4 (other - place) 0 count (omega arith)
          ∙ get_or-drop (place + 4) bytes (other - place - 4) 0
          ∙ ap (λ n. get_or bytes n 0) (omega arith)
    ]

pub with-other : (place number : ℕ) (bytes : List ℕ) (other : ℕ) → place + 4 ≤ length bytes → (other + 4 ≤ place) ⊎ (place + 4 ≤ other)
    → number_at 4 (with_number 4 place number bytes) other ≡ number_at 4 bytes other
with-other place number bytes other room (inl before) =
    same_number other (with_number 4 place number bytes) bytes (λ k low high. with-beside place number bytes k room (inl (omega arith)))
with-other place number bytes other room (inr behind) =
    same_number other (with_number 4 place number bytes) bytes (λ k low high. with-beside place number bytes k room (inr (omega arith)))

-- behind the usable size all is zero; before it nothing has changed
pub cleared-long : (usable : ℕ) (bytes : List ℕ) → usable ≤ length bytes → length (cleared usable bytes) ≡ length bytes
cleared-long usable bytes most =
    omega (arith, length-append (take usable bytes) (replicate (length bytes - usable) 0), length-take-le usable bytes most, length-replicate {A = ℕ} (length bytes - usable) 0)

pub cleared-below : (usable : ℕ) (bytes : List ℕ) (k : ℕ) → usable ≤ length bytes → k < usable → slice_index (cleared usable bytes) k ≡ slice_index bytes k
cleared-below usable bytes k most below =
    get_or_append_left (take usable bytes) (replicate (length bytes - usable) 0) 0 k (omega (arith, length-take-le usable bytes most))
    ∙ get_or-take usable bytes k 0 below

pub cleared-number : (usable : ℕ) (bytes : List ℕ) (place : ℕ) → usable ≤ length bytes → place + 4 ≤ usable → number_at 4 (cleared usable bytes) place ≡ number_at 4 bytes place
cleared-number usable bytes place most room = same_number place (cleared usable bytes) bytes (λ k low high. cleared-below usable bytes k most (omega arith))

-- a page of zeros
pub zero-at : (size k : ℕ) → slice_index (replicate size 0) k ≡ 0
zero-at zero k = refl
zero-at (suc size) zero = refl
zero-at (suc size) (suc k) = zero-at size k

pub zeros-number : (size place : ℕ) → number_at 4 (replicate size 0) place ≡ 0
unfolding number_at
zeros-number size place =
    same_from 0 4 (drop place (replicate size 0)) [] (λ k low high. get_or-drop place (replicate size 0) k 0 ∙ zero-at size (place + k))
