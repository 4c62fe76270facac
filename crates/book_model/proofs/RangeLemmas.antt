-- What values bytes can stand for, and that these are written so that they are read again.
use Rattle.std.proofs.Common.{◌≡◌, inl, inr, ℕ, zero, suc, ◌+◌, ◌-◌, ◌*◌, ◌/◌, ◌%◌, ◌^◌, ◌≤◌, ◌<◌, nat_lt, ◌==◌, ℤ, pos, negsuc, ◌-ℤ◌, Bool, true, false, cond, List, [], ◌∷◌, length, Some, refl, sym, ap, subst, ◌∙◌, arith, get_or}
use Rattle.std.proofs.Math.Nat.{pow-succ', pow-le-pow_right}
use Rattle.std.proofs.lemmas.Bool.{cases_lt, lt-ltb, le-ltb}
use Rattle.std.proofs.lemmas.Bool.Decides.{nat_tests}
use Rattle.std.proofs.lemmas.Int.{ints, to_z_pos}
use Rattle.std.proofs.lemmas.List.{append-nil}
use Rattle.std.specs.List.{AllByRecursion}
use Rattle.std.specs.Prelude.{slice_get}
use Rattle.std.specs.Int.{w64, byte_at as place, bytes_high_first}
use Rattle.byteorder.specs.Endian.{big_bytes, big_number, twos_complement}
use Rattle.byteorder.specs.Numbers.{big_from-lt, big_number-reads_back, length-bytes_high_first}
use Rattle.db_format.specs.declared.value.Value.{Value}
use Rattle.db_format.specs.declared.value.Value.TheVariants.{Null, Int, Text, Blob, Real}
use Rattle.db_format.specs.Varint.{IsVarint}
use Rattle.db_format.specs.Record.{sizes, content_size, value_of, Stands, AreBytes}
use Rattle.db_format.specs.Writing.{written_type, written_content}
use Rattle.db_format.proofs.WritingLemmas.{size_of, stands_int}

-- the value has bytes, or a number of 64 bits
abbrev pub IsHeld : Value → Type 0
IsHeld Null = Unit {0}
IsHeld (Int n) = size_of n < 2 ^ 63
IsHeld (Text bytes) = AreBytes bytes
IsHeld (Blob bytes) = AreBytes bytes
IsHeld (Real bits) = bits < 2 ^ 64

-- ---- what bytes stand for

byte_at : (xs : List ℕ) → AreBytes xs → (i : ℕ) → get_or xs i 0 < 256
byte_at [] h i = omega arith
byte_at (x ∷ xs) h zero = h.0
byte_at (x ∷ xs) h (suc i) = byte_at xs h.1 i

eights : (k : ℕ) → 256 ^ k ≡ 2 ^ (8 * k)
eights zero = refl
eights (suc k) =
    let more : 8 * suc k ≡ suc (suc (suc (suc (suc (suc (suc (suc (8 * k)))))))) = omega arith in
    let next : (m : ℕ) → 2 ^ suc m ≡ 2 * 2 ^ m = pow-succ' 2 in
    rw (more, next, next, next, next, next, next, next, next, pow-succ') (omega (arith, eights k))

negative_size : (n : ℤ) (x w : ℕ) → n ≡ pos x -ℤ pos w → x < w → size_of n + x + 1 ≡ w
negative_size (pos m) x w e less = absurd (omega (arith, ints))
negative_size (negsuc m) x w e less = omega (arith, ints)

-- up to eight bytes stand for a number of 64 bits
twos_held : (k x : ℕ) → k ≤ 8 → x < 2 ^ (8 * k) → size_of (twos_complement k x) < 2 ^ 63
twos_held zero x few less = let none : 0 ≡ x = omega (arith, less) in subst (λ n. size_of (twos_complement 0 n) < 2 ^ 63) none (omega arith)
twos_held (suc k) x few less =
    let half : ℕ = 8 * suc k - 1 in
    let two : 2 ^ (8 * suc k) ≡ 2 * 2 ^ half = ap (λ n. 2 ^ n) (omega arith) ∙ pow-succ' 2 half in
    let top : 2 ^ half ≤ 2 ^ 63 = pow-le-pow_right {n = 2} (omega arith) {i = half} {j = 63} (omega (arith, few)) in
    elim (cases_lt x (2 ^ half)) [
      | inl low ↦ rw (lt-ltb x (2 ^ half) low) (omega (arith, low, top))
      | inr high ↦ rw (le-ltb x (2 ^ half) high) (omega (arith, high, top, two, negative_size (pos x -ℤ pos (2 ^ (8 * suc k))) x (2 ^ (8 * suc k)) refl less))
    ]

get_most : (most : ℕ) (xs : List ℕ) → AllByRecursion (λ x. x ≤ most) xs → (i k : ℕ) → slice_get xs i ≡ Some k → k ≤ most
get_most most [] all i k e = absurd cc
get_most most (x ∷ xs) all zero k e = let same : x ≡ k = cc in omega (arith, all.0, same)
get_most most (x ∷ xs) all (suc i) k e = get_most most xs all.1 i k e

sizes_small : AllByRecursion (λ x. x ≤ 8) sizes
sizes_small = (omega arith, (omega arith, (omega arith, (omega arith, (omega arith, (omega arith, (omega arith, (omega arith, (omega arith, (omega arith, tt))))))))))

by_test : (P : Value → Type 0) (b : Bool) (x y : Value) → (b ≡ true → P x) → (b ≡ false → P y) → P (cond b x y)
by_test P true x y p q = p refl
by_test P false x y p q = q refl

held_value : (t : ℕ) (c : List ℕ) → AreBytes c → content_size t ≡ Some (length c) → IsHeld (value_of t c)
held_value t c bytes sized =
    let number : Value = Int (twos_complement (length c) (big_number (length c) c)) in
    let long : Value = cond (t % 2 == 0) (Blob c) (Text c) in
    let from_9 : Value = cond (t == 9) (Int (pos 1)) (cond (nat_lt t 12) number long) in
    let from_7 : Value = cond (t == 7) (Real (big_number 8 c)) (cond (t == 8) (Int (pos 0)) from_9) in
    let few : nat_lt t 12 ≡ true → length c ≤ 8 =
    λ low. get_most 8 sizes sizes_small t (length c) (sym (ap (λ b. cond b (slice_get sizes t) (Some ((t - 12) / 2))) low) ∙ sized) in
    let below : big_number (length c) c < 2 ^ (8 * length c) =
    subst (λ n. big_number (length c) c < n) (eights (length c)) (big_from-lt 0 (length c) c (byte_at c bytes)) in
    by_test IsHeld (t == 0) Null from_7 (λ _. tt)
    (λ _. by_test IsHeld (t == 7) (Real (big_number 8 c)) (cond (t == 8) (Int (pos 0)) from_9) (λ _. big_from-lt 0 8 c (byte_at c bytes))
    (λ _. by_test IsHeld (t == 8) (Int (pos 0)) from_9 (λ _. small 0 (omega arith))
    (λ _. by_test IsHeld (t == 9) (Int (pos 1)) (cond (nat_lt t 12) number long) (λ _. small 1 (omega arith))
    (λ _. by_test IsHeld (nat_lt t 12) number long (λ low. twos_held (length c) (big_number (length c) c) (few low) below)
    (λ _. by_test IsHeld (t % 2 == 0) (Blob c) (Text c) (λ _. bytes) (λ _. bytes))))))
  where
    small : (n : ℕ) → n < 2 ^ 63 → IsHeld (Int (pos n))
    small n less = less

pub held : (t : ℕ) (c : List ℕ) (v : Value) → AreBytes c → Stands t c v → IsHeld v
held t c v bytes s = subst IsHeld s.meant (held_value t c bytes s.sized)

-- a varint spells no greater number
pub serial_small : (bytes : List ℕ) (n : ℕ) → IsVarint bytes (pos n) → n < 2 ^ 63
serial_small bytes n v = elim (cases_lt v.bits (2 ^ 63)) [
  | inl low ↦ let same : pos n ≡ pos v.bits = v.signed ∙ to_z_pos w64 v.bits low in omega (arith, ints, same, low)
  | inr high ↦ let is = v.signed in absurd (grind (arith, ints, nat_tests, is, high))
]

-- ---- how they are written

is_byte : (k n : ℕ) → place k n < 256
is_byte zero n = omega arith
is_byte (suc k) n = omega arith

bytes_high : (k n : ℕ) → AreBytes (bytes_high_first k n)
bytes_high zero n = tt
bytes_high (suc k) n = (is_byte k n, bytes_high k n)

pub written_bytes : (v : Value) → IsHeld v → AreBytes (written_content v)
written_bytes Null is = tt
written_bytes (Int n) is = bytes_high _ _
written_bytes (Text bytes) is = is
written_bytes (Blob bytes) is = is
written_bytes (Real bits) is = bytes_high 8 bits

real_stands : (bits : ℕ) → bits < 2 ^ 64 → Stands 7 (big_bytes 8 bits) (Real bits)
real_stands bits small = record {
  sized = ap Some (sym (length-bytes_high_first 8 bits));
  meant = ap Real (ap (big_number 8) (sym (append-nil (big_bytes 8 bits))) ∙ big_number-reads_back 8 bits [] small);
}

text_stands : (bytes : List ℕ) → Stands (13 + 2 * length bytes) bytes (Text bytes)
text_stands bytes = record { sized = grind (arith, nat_tests); meant = grind (arith, nat_tests) }

blob_stands : (bytes : List ℕ) → Stands (12 + 2 * length bytes) bytes (Blob bytes)
blob_stands bytes = record { sized = grind (arith, nat_tests); meant = grind (arith, nat_tests) }

pub written_stands : (v : Value) → IsHeld v → Stands (written_type v) (written_content v) v
written_stands Null is = record { sized = refl; meant = refl }
written_stands (Int n) is = stands_int n is
written_stands (Text bytes) is = text_stands bytes
written_stands (Blob bytes) is = blob_stands bytes
written_stands (Real bits) is = real_stands bits is
