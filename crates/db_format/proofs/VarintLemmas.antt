-- Laws of bytes that continue, and that one spelling of a number begins no other.
use Rattle.std.proofs.Common.{◌≡◌, ℕ, zero, suc, ◌+◌, ◌-◌, ◌*◌, ◌/◌, ◌%◌, ◌^◌, ◌≤◌, ◌<◌, ℤ, pos, List, [], ◌∷◌, ◌++◌, length, take, drop, set, fold, refl, sym, ap, subst, ◌∙◌, ◌⊎◌, inl, inr, append_assoc, length-append, add-one, arith}
use Rattle.std.proofs.Math.Nat.{pow-suc, pow-succ', pow-le-pow_right, mul-le-mul_right}
use Rattle.std.proofs.lemmas.List.{take-append-drop, length-take, length-drop, length-set, drop-set}
use Rattle.std.proofs.lemmas.Nat.{div-add-mod', same_from_place, pow_pos, pow-add, shr_split, mod_below, and_mask, or_shifted}
use Rattle.std.specs.Prelude.{bit_and, bit_or}
use Rattle.std.proofs.lemmas.List.Sums.{fold-append}
use Rattle.std.specs.List.{AllByRecursion}
use Rattle.std.proofs.lemmas.Bool.{cases_lt}
use Rattle.std.proofs.lemmas.Int.{of_z-to_z, to_z_pos}
use Rattle.std.specs.Int.{w64, cast_signed, cast_unsigned}
use Rattle.db_format.specs.Varint.{Continues, sevens, IsVarint, IsShortest, ReadsAgain, EndsInside, NoVarint, OneVarint, OneSpelling}

-- all of the bytes continue
abbrev pub Front : List ℕ → Type 0
Front bytes = AllByRecursion Continues bytes

pub front-append : (xs ys : List ℕ) → Front xs → Front ys → Front (xs ++ ys)
front-append [] ys p q = q
front-append (x ∷ xs) ys p q = (p.0, front-append xs ys p.1 q)

pub front-push : (xs : List ℕ) (byte : ℕ) → Front xs → Continues byte → Front (xs ++ byte ∷ [])
front-push xs byte p q = front-append xs (byte ∷ []) p (q, tt)

pub front_last : (xs : List ℕ) (byte : ℕ) → Front (xs ++ byte ∷ []) → Continues byte
front_last [] byte p = p.0
front_last (x ∷ xs) byte p = front_last xs byte p.1

pub front-take : (n : ℕ) (xs : List ℕ) → Front xs → Front (take n xs)
front-take zero xs p = tt
front-take (suc n) [] p = tt
front-take (suc n) (x ∷ xs) p = (p.0, front-take n xs p.1)

-- one more byte behind the others
pub sevens-push : (xs : List ℕ) (byte : ℕ) → sevens (xs ++ byte ∷ []) ≡ 128 * sevens xs + (byte - 128)
sevens-push xs byte = fold-append (λ (number byte : ℕ). 128 * number + (byte - 128)) 0 xs (byte ∷ [])

sevens_from : (xs : List ℕ) (number : ℕ) → fold (λ (number byte : ℕ). 128 * number + (byte - 128)) number xs ≡ number * 128 ^ length xs + sevens xs
sevens_from [] number = omega arith
sevens_from (x ∷ xs) number =
    let far = sevens_from xs (128 * number + (x - 128)) in
    let near = sevens_from xs (0 + (x - 128)) in
    rw pow-succ' (omega arith)

-- one more byte in front of the others
pub sevens-cons : (byte : ℕ) (xs : List ℕ) → sevens (byte ∷ xs) ≡ (byte - 128) * 128 ^ length xs + sevens xs
sevens-cons byte xs = let e = sevens_from xs (0 + (byte - 128)) in omega arith

-- so many bytes hold seven bits each
pub sevens-below : (xs : List ℕ) → Front xs → sevens xs < 128 ^ length xs
sevens-below [] p = omega arith
sevens-below (x ∷ xs) p =
    let below = sevens-below xs p.1 in
    let number = sevens-cons x xs in
    let top : (x - 128) * 128 ^ length xs ≤ 127 * 128 ^ length xs = mul-le-mul_right (128 ^ length xs) (omega arith) in
    rw pow-succ' (omega arith)

-- the last byte of a spelling behind so many others
abbrev pub IsLast : ℕ → ℕ → Type 0
IsLast n last = ((n < 8) × (last < 128)) ⊎ ((n ≡ 8) × (last < 256))

-- of two spellings that begin the same bytes, the bytes that continue and the last one are the same
pub one_spelling : (k : ℕ) (xs ys : List ℕ) (l m : ℕ) (s t : List ℕ) → Front xs → Front ys
    → IsLast (k + length xs) l → IsLast (k + length ys) m → xs ++ l ∷ s ≡ ys ++ m ∷ t → (xs ≡ ys) × (l ≡ m)
one_spelling k [] [] l m s t p q u v e = (refl, cc)
one_spelling k [] (y ∷ ys) l m s t p q u v e =
    let same : l ≡ y = cc in
    absurd (elim u [ inl low ↦ omega arith | inr high ↦ elim v [ inl w ↦ omega arith | inr w ↦ omega arith ] ])
one_spelling k (x ∷ xs) [] l m s t p q u v e =
    let same : x ≡ m = cc in
    absurd (elim v [ inl low ↦ omega arith | inr high ↦ elim u [ inl w ↦ omega arith | inr w ↦ omega arith ] ])
one_spelling k (x ∷ xs) (y ∷ ys) l m s t p q u v e =
    let rest : xs ++ l ∷ s ≡ ys ++ m ∷ t = cc in
    let first : x ≡ y = cc in
    let u' : IsLast (suc k + length xs) l = subst (λ n. IsLast n l) (omega arith) u in
    let v' : IsLast (suc k + length ys) m = subst (λ n. IsLast n m) (omega arith) v in
    let r = one_spelling (suc k) xs ys l m s t p.1 q.1 u' v' rest in
    (cc, r.1)

pub is_last : (bytes : List ℕ) (value : ℤ) (v : IsVarint bytes value) → IsLast (0 + length v.front) v.last
is_last bytes value v =
    elim v.ends [ inl low ↦ inl (omega (arith, low.0), low.1) | inr high ↦ inr (omega (arith, high.0), high.1) ]

-- the bits follow from the bytes
same_bits : (bytes other : List ℕ) (m n : ℤ) (v : IsVarint bytes m) (w : IsVarint other n) → v.front ≡ w.front → v.last ≡ w.last → v.bits ≡ w.bits
same_bits bytes other m n v w front last =
    let size = ap (λ (xs : List ℕ). length xs) front in
    let number = ap sevens front in
    elim v.ends [
      | inl low ↦ elim w.ends [ inl low' ↦ omega (arith, low.2, low'.2) | inr high' ↦ absurd (omega (arith, low.0, high'.0)) ]
      | inr high ↦ elim w.ends [ inl low' ↦ absurd (omega (arith, high.0, low'.0)) | inr high' ↦ omega (arith, high.2, high'.2) ]
    ]

pub varints_agree : OneVarint
varints_agree a b x y m n v w e =
    let before : v.front ++ v.last ∷ x ≡ a ++ x = sym (ap (λ (bs : List ℕ). bs ++ x) v.parts ∙ append_assoc v.front (v.last ∷ []) x) in
    let after : b ++ y ≡ w.front ++ w.last ∷ y = ap (λ (bs : List ℕ). bs ++ y) w.parts ∙ append_assoc w.front (w.last ∷ []) y in
    let same = one_spelling 0 v.front w.front v.last w.last x y v.continues w.continues (is_last a m v) (is_last b n w) (before ∙ e ∙ after) in
    let bits = same_bits a b m n v w same.0 same.1 in (
      v.parts ∙ ap (λ (bs : List ℕ). bs ++ v.last ∷ []) same.0 ∙ ap (λ (l : ℕ). w.front ++ l ∷ []) same.1 ∙ sym w.parts,
      v.signed ∙ ap (cast_signed w64) bits ∙ sym w.signed,
    )

-- where the bytes end inside a number, no front of them is one
pub ends_inside : (bytes : List ℕ) → EndsInside bytes → NoVarint bytes
ends_inside bytes inside len value v =
    let taken : Front (v.front ++ v.last ∷ []) = subst Front v.parts (front-take len bytes inside.continues) in
    let last = front_last v.front v.last taken in
    let count : length (take len bytes) ≡ length v.front + 1 = ap (λ (bs : List ℕ). length bs) v.parts ∙ length-append v.front (v.last ∷ []) in
    elim v.ends [ inl low ↦ omega (arith, low.1) | inr high ↦ omega (arith, high.0, length-take len bytes, inside.few) ]

-- ---- writing

-- two to the seventh, so many times
pub two-sevens : (k : ℕ) → 2 ^ (7 * k) ≡ 128 ^ k
two-sevens zero = refl
two-sevens (suc k) =
    let more : 7 * suc k ≡ 7 * k + 7 = omega arith in
    ap (λ (n : ℕ). 2 ^ n) more ∙ pow-add 2 (7 * k) 7 ∙ ap (λ (n : ℕ). n * 128) (two-sevens k) ∙ sym (pow-suc 128 k)

-- the bits fit where nothing is left of them behind so many bytes, and do not where something is
pub bits_fit : (bits k : ℕ) → bits / 2 ^ (7 * k) ≡ 0 → bits < 128 ^ k
bits_fit bits k e =
    let split = shr_split bits (7 * k) in
    let below : bits % 2 ^ (7 * k) < 2 ^ (7 * k) = mod_below bits (2 ^ (7 * k)) (pow_pos (7 * k)) in
    let none : bits / 2 ^ (7 * k) * 2 ^ (7 * k) ≡ 0 * 2 ^ (7 * k) = ap (λ (n : ℕ). n * 2 ^ (7 * k)) e in
    rw (← two-sevens k) (omega arith)

pub bits_pass : (bits k : ℕ) → (bits / 2 ^ (7 * k) ≡ 0 → ⊥) → 128 ^ k ≤ bits
bits_pass bits k ne =
    let split = shr_split bits (7 * k) in
    let some : 1 ≤ bits / 2 ^ (7 * k) = omega arith in
    let much : 1 * 2 ^ (7 * k) ≤ bits / 2 ^ (7 * k) * 2 ^ (7 * k) = mul-le-mul_right (2 ^ (7 * k)) some in
    rw (← two-sevens k) (omega arith)

-- a byte that continues, with the low seven bits of a number
pub seven_byte : (n : ℕ) → bit_or 128 (bit_and n 127) ≡ 128 + n % 128
seven_byte n = ap (bit_or 128) (and_mask n 7) ∙ or_shifted 1 7 (n % 128) (omega arith)

pub record Filled (xs : List ℕ) (at rest bits : ℕ) : Type 0 where
  pub continues : Front (drop at xs)
  pub room : rest < 128 ^ at
  pub number : rest * 128 ^ (length xs - at) + sevens (drop at xs) ≡ bits

-- one more byte, in front of those that are filled
pub fill_more : (xs : List ℕ) (at rest bits : ℕ) → at < length xs → Filled xs (at + 1) rest bits
    → Filled (set xs at (bit_or 128 (bit_and rest 127))) at (rest / 128) bits
fill_more xs at rest bits within h =
    let byte = seven_byte rest in
    let parts : drop at (set xs at (bit_or 128 (bit_and rest 127))) ≡ (128 + rest % 128) ∷ drop (at + 1) xs =
    drop-set xs at (bit_or 128 (bit_and rest 127)) within ∙ ap (λ (b : ℕ). b ∷ drop (at + 1) xs) byte in
    let size : length (set xs at (bit_or 128 (bit_and rest 127))) ≡ length xs = length-set xs at (bit_or 128 (bit_and rest 127)) in
    let digits = sevens-cons (128 + rest % 128) (drop (at + 1) xs) in
    let count : length (drop (at + 1) xs) ≡ length xs - (at + 1) = length-drop (at + 1) xs in
    let step : length xs - at ≡ suc (length xs - (at + 1)) = omega arith in
    let low : 128 + rest % 128 - 128 ≡ rest % 128 = omega arith in
    let split : (rest / 128 * 128 + rest % 128) * 128 ^ (length xs - (at + 1)) ≡ rest * 128 ^ (length xs - (at + 1)) =
    ap (λ (n : ℕ). n * 128 ^ (length xs - (at + 1))) (div-add-mod' rest 128) in
    let limit : rest < 128 * 128 ^ at = rw (add-one, pow-succ') at h.room in
    record {
      continues = rw parts ((omega arith, omega arith), h.continues);
      room = omega arith;
      number = rw (parts, size, digits, count, step, pow-succ', low) (omega (arith, split, h.number));
    }

-- a number of bytes is at most that of any spelling, where one byte fewer does not hold the bits
pub no_shorter : (value : ℤ) (bits len : ℕ) → bits ≡ cast_unsigned w64 value → len ≤ 9 → (1 < len → 128 ^ (len - 1) ≤ bits)
    → (other : List ℕ) → IsVarint other value → len ≤ length other
no_shorter value bits len is within needed other v =
    let f : ℕ = length v.front in
    let below : sevens v.front < 128 ^ f = sevens-below v.front v.continues in
    let count : length other ≡ f + 1 = ap (λ (bs : List ℕ). length bs) v.parts ∙ length-append v.front (v.last ∷ []) in
    let more : 128 ^ suc f ≡ 128 * 128 ^ f = pow-succ' 128 f in
    elim v.ends [
      | inl low ↦
          let under : v.bits < 128 ^ suc f = omega (arith, low.1, low.2) in
          let top : 128 ^ suc f ≤ 128 ^ 8 = pow-le-pow_right {n = 128} (omega arith) {i = suc f} {j = 8} (omega (arith, low.0)) in
          let same : bits ≡ v.bits = is ∙ ap (cast_unsigned w64) v.signed ∙ of_z-to_z w64 v.bits (omega arith) in
          elim (cases_lt 1 len) [
            | inl some ↦ elim (cases_lt (suc f) len) [
              | inl past ↦
                  let grows : 128 ^ suc f ≤ 128 ^ (len - 1) = pow-le-pow_right {n = 128} (omega arith) {i = suc f} {j = len - 1} (omega arith) in
                  absurd (omega (arith, needed some))
              | inr fits ↦ omega arith
            ]
            | inr few ↦ omega arith
          ]
      | inr high ↦ omega (arith, high.0)
    ]

pub shortest : (xs : List ℕ) (value : ℤ) (bits len : ℕ) → bits ≡ cast_unsigned w64 value → len ≤ 9 → (1 < len → 128 ^ (len - 1) ≤ bits)
    → IsShortest (take len xs) value
shortest xs value bits len is within needed other v =
    omega (arith, length-take len xs, no_shorter value bits len is within needed other v)

-- ---- reading

-- up to eight bytes that continue hold 56 bits
pub sevens_fit : (xs : List ℕ) → Front xs → length xs ≤ 8 → sevens xs < 2 ^ 56
sevens_fit xs p few =
    let top : 128 ^ length xs ≤ 128 ^ 8 = pow-le-pow_right {n = 128} (omega arith) {i = length xs} {j = 8} few in
    omega (arith, sevens-below xs p)

-- fewer than nine bytes spell no number that they have no room for
pub varint_room : (bytes : List ℕ) (n : ℕ) → IsVarint bytes (pos n) → length bytes ≤ 8 → n < 128 ^ length bytes
varint_room bytes n v few =
    let f : ℕ = length v.front in
    let below : sevens v.front < 128 ^ f = sevens-below v.front v.continues in
    let count : length bytes ≡ suc f = omega (arith, ap (λ (bs : List ℕ). length bs) v.parts, length-append v.front (v.last ∷ [])) in
    let more : 128 ^ suc f ≡ 128 * 128 ^ f = pow-succ' 128 f in
    elim v.ends [
      | inl low ↦
          let under : v.bits < 128 ^ suc f = omega (arith, low.1, low.2) in
          let top : 128 ^ suc f ≤ 128 ^ 8 = pow-le-pow_right {n = 128} (omega arith) {i = suc f} {j = 8} (omega (arith, low.0)) in
          let signed : pos n ≡ pos v.bits = v.signed ∙ to_z_pos w64 v.bits (omega arith) in
          let same : n ≡ v.bits = cc in
          rw count (omega arith)
      | inr high ↦ absurd (omega (arith, high.0))
    ]

-- ---- one spelling of each length

bits_small : (bytes : List ℕ) (value : ℤ) (v : IsVarint bytes value) → v.bits < 2 ^ 64
bits_small bytes value v =
    elim v.ends [
      | inl low ↦ let fit = sevens_fit v.front v.continues (omega (arith, low.0)) in omega (arith, low.1, low.2)
      | inr high ↦ let fit = sevens_fit v.front v.continues (omega (arith, high.0)) in omega (arith, high.1, high.2)
    ]

sevens_same : (xs ys : List ℕ) → Front xs → Front ys → length xs ≡ length ys → sevens xs ≡ sevens ys → xs ≡ ys
sevens_same [] [] p q len e = refl
sevens_same [] (y ∷ ys) p q len e = absurd cc
sevens_same (x ∷ xs) [] p q len e = absurd cc
sevens_same (x ∷ xs) (y ∷ ys) p q len e =
    let same : length xs ≡ length ys = cc in
    let below : sevens ys < 128 ^ length xs = subst (λ (n : ℕ). sevens ys < 128 ^ n) (sym same) (sevens-below ys q.1) in
    let second : sevens (y ∷ ys) ≡ (y - 128) * 128 ^ length xs + sevens ys = sevens-cons y ys ∙ ap (λ (n : ℕ). (y - 128) * 128 ^ n + sevens ys) (sym same) in
    let parts = same_from_place (x - 128) (sevens xs) (y - 128) (sevens ys) (128 ^ length xs) (sevens-below xs p.1) below (sym (sevens-cons x xs) ∙ e ∙ second) in
    let first : x ≡ y = omega (arith, parts.0) in
    let rest = sevens_same xs ys p.1 q.1 same parts.1 in
    cc

pub spellings_agree : OneSpelling
spellings_agree a b n v w len =
    let bits : v.bits ≡ w.bits = sym (of_z-to_z w64 v.bits (bits_small a n v)) ∙ ap (cast_unsigned w64) (sym v.signed ∙ w.signed) ∙ of_z-to_z w64 w.bits (bits_small b n w) in
    let size : length v.front ≡ length w.front =
    omega (arith, len, ap (λ (bs : List ℕ). length bs) v.parts, ap (λ (bs : List ℕ). length bs) w.parts, length-append v.front (v.last ∷ []), length-append w.front (w.last ∷ [])) in
    let both : (sevens v.front ≡ sevens w.front) × (v.last ≡ w.last) =
    elim v.ends [
      | inl low ↦ elim w.ends [ inl low' ↦ (omega (arith, low.1, low.2, low'.1, low'.2), omega (arith, low.1, low.2, low'.1, low'.2)) | inr high' ↦ absurd (omega (arith, low.0, high'.0)) ]
      | inr high ↦ elim w.ends [ inl low' ↦ absurd (omega (arith, high.0, low'.0)) | inr high' ↦ (omega (arith, high.1, high.2, high'.1, high'.2), omega (arith, high.1, high.2, high'.1, high'.2)) ]
    ] in
    let front = sevens_same v.front w.front v.continues w.continues size both.0 in
    v.parts ∙ ap (λ (bs : List ℕ). bs ++ v.last ∷ []) front ∙ ap (λ (l : ℕ). w.front ++ l ∷ []) both.1 ∙ sym w.parts

pub reads_again : (bytes : List ℕ) (value : ℤ) → IsVarint bytes value → ReadsAgain bytes value
reads_again bytes value v rest len other w =
    varints_agree (take len (bytes ++ rest)) bytes (drop len (bytes ++ rest)) rest other value w v (take-append-drop len (bytes ++ rest))
