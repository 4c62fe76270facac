-- The shortest spelling of a number, and how many bytes it has.
use Rattle.std.proofs.Common.{◌≡◌, inl, inr, ℕ, zero, suc, ◌+◌, ◌-◌, ◌*◌, ◌/◌, ◌%◌, ◌^◌, ◌≤◌, ◌<◌, pos, List, [], ◌∷◌, ◌++◌, length, refl, sym, subst, ◌∙◌, arith, length-append}
use Rattle.std.proofs.Math.Nat.{pow-succ', pow-le-pow_right}
use Rattle.std.proofs.lemmas.Bool.{cases_lt, lt-ltb, le-ltb}
use Rattle.std.proofs.lemmas.Int.{to_z_pos}
use Rattle.std.specs.Int.{w64}
use Rattle.db_format.specs.Varint.{IsVarint, IsSize}
use Rattle.db_format.specs.Record.{AreBytes}
use Rattle.db_format.specs.Writing.{IsHeaderSize}
use Rattle.db_format.proofs.VarintLemmas.{Front, front-push, sevens-push}
use Rattle.db_format.specs.Varint.{sevens}
use Rattle.book_model.specs.Size.{varint_size, header_size}

pub bytes_both : (xs ys : List ℕ) → AreBytes xs → AreBytes ys → AreBytes (xs ++ ys)
bytes_both [] ys p q = q
bytes_both (x ∷ xs) ys p q = (p.0, bytes_both xs ys p.1 q)

-- so many bytes that continue, with the lowest seven bits of a number for each
abbrev fill : ℕ → ℕ → List ℕ
fill zero n = []
fill (suc k) n = fill k (n / 128) ++ (128 + n % 128) ∷ []

record IsFill (k n : ℕ) (bytes : List ℕ) : Type 0 where
  front : Front bytes
  number : sevens bytes ≡ n
  count : length bytes ≡ k
  are_bytes : AreBytes bytes

filled : (k n : ℕ) → n < 128 ^ k → IsFill k n (fill k n)
filled zero n room = record { front = tt; number = omega (arith, room); count = refl; are_bytes = tt }
filled (suc k) n room =
    let limit : 128 ^ suc k ≡ 128 * 128 ^ k = pow-succ' 128 k in
    let more = filled k (n / 128) (omega (arith, room, limit)) in
    let byte : ℕ = 128 + n % 128 in
    record {
      front = front-push (fill k (n / 128)) byte more.front (omega arith, omega arith);
      number = sevens-push (fill k (n / 128)) byte ∙ omega (arith, more.number);
      count = omega (arith, length-append (fill k (n / 128)) (byte ∷ []), more.count);
      are_bytes = bytes_both (fill k (n / 128)) (byte ∷ []) more.are_bytes (omega arith, tt);
    }

-- the shortest spelling of a number has so many bytes
pub record Spelled (n len : ℕ) : Type 0 where
  pub spelling : List ℕ
  pub spelled : IsVarint spelling (pos n)
  pub size : IsSize n (length spelling)
  pub long : length spelling ≡ len
  pub are_bytes : AreBytes spelling

pub short_spelled : (k n : ℕ) → k < 8 → n < 128 ^ suc k → (1 ≤ k → 128 ^ k ≤ n) → Spelled n (suc k)
short_spelled k n few room needed =
    let limit : 128 ^ suc k ≡ 128 * 128 ^ k = pow-succ' 128 k in
    let top : 128 ^ suc k ≤ 128 ^ 8 = pow-le-pow_right {n = 128} (omega arith) {i = suc k} {j = 8} (omega (arith, few)) in
    let front = filled k (n / 128) (omega (arith, room, limit)) in
    let bytes : List ℕ = fill k (n / 128) ++ n % 128 ∷ [] in
    let long : length bytes ≡ suc k = omega (arith, length-append (fill k (n / 128)) (n % 128 ∷ []), front.count) in
    let last : 1 < suc k → 128 ^ (suc k - 1) ≤ n = λ more. subst (λ m. 128 ^ m ≤ n) (omega arith) (needed (omega (arith, more))) in
    let size : IsSize n (suc k) = record { some = omega arith; within = omega (arith, few); room = λ _. room; needed = last } in
    record {
      spelling = bytes;
      spelled = record {
        front = fill k (n / 128);
        last = n % 128;
        bits = n;
        parts = refl;
        continues = front.front;
        ends = inl (omega (arith, front.count, few), omega arith, omega (arith, front.number));
        signed = sym (to_z_pos w64 n (omega (arith, room, top)));
      };
      size = subst (IsSize n) (sym long) size;
      long = long;
      are_bytes = bytes_both (fill k (n / 128)) (n % 128 ∷ []) front.are_bytes (omega arith, tt);
    }

long_spelled : (n : ℕ) → 2 ^ 56 ≤ n → n < 2 ^ 63 → Spelled n 9
long_spelled n more less =
    let front = filled 8 (n / 256) (omega (arith, less)) in
    let bytes : List ℕ = fill 8 (n / 256) ++ n % 256 ∷ [] in
    let long : length bytes ≡ 9 = omega (arith, length-append (fill 8 (n / 256)) (n % 256 ∷ []), front.count) in
    let size : IsSize n 9 = record { some = omega arith; within = omega arith; room = λ few. absurd (omega (arith, few)); needed = λ _. omega (arith, more) } in
    record {
      spelling = bytes;
      spelled = record {
        front = fill 8 (n / 256);
        last = n % 256;
        bits = n;
        parts = refl;
        continues = front.front;
        ends = inr (front.count, omega arith, omega (arith, front.number));
        signed = sym (to_z_pos w64 n less);
      };
      size = subst (IsSize n) (sym long) size;
      long = long;
      are_bytes = bytes_both (fill 8 (n / 256)) (n % 256 ∷ []) front.are_bytes (omega arith, tt);
    }

pub spell : (n : ℕ) → n < 2 ^ 63 → Spelled n (varint_size n)
spell n small =
    elim (cases_lt n (2 ^ 7)) [
      | inl lt ↦ rw (lt-ltb n (2 ^ 7) lt) (short_spelled 0 n (omega arith) lt (λ some. absurd (omega (arith, some))))
      | inr ge ↦ rw (le-ltb n (2 ^ 7) ge) (elim (cases_lt n (2 ^ 14)) [
        | inl lt ↦ rw (lt-ltb n (2 ^ 14) lt) (short_spelled 1 n (omega arith) lt (λ _. ge))
        | inr ge ↦ rw (le-ltb n (2 ^ 14) ge) (elim (cases_lt n (2 ^ 21)) [
          | inl lt ↦ rw (lt-ltb n (2 ^ 21) lt) (short_spelled 2 n (omega arith) lt (λ _. ge))
          | inr ge ↦ rw (le-ltb n (2 ^ 21) ge) (elim (cases_lt n (2 ^ 28)) [
            | inl lt ↦ rw (lt-ltb n (2 ^ 28) lt) (short_spelled 3 n (omega arith) lt (λ _. ge))
            | inr ge ↦ rw (le-ltb n (2 ^ 28) ge) (elim (cases_lt n (2 ^ 35)) [
              | inl lt ↦ rw (lt-ltb n (2 ^ 35) lt) (short_spelled 4 n (omega arith) lt (λ _. ge))
              | inr ge ↦ rw (le-ltb n (2 ^ 35) ge) (elim (cases_lt n (2 ^ 42)) [
                | inl lt ↦ rw (lt-ltb n (2 ^ 42) lt) (short_spelled 5 n (omega arith) lt (λ _. ge))
                | inr ge ↦ rw (le-ltb n (2 ^ 42) ge) (elim (cases_lt n (2 ^ 49)) [
                  | inl lt ↦ rw (lt-ltb n (2 ^ 49) lt) (short_spelled 6 n (omega arith) lt (λ _. ge))
                  | inr ge ↦ rw (le-ltb n (2 ^ 49) ge) (elim (cases_lt n (2 ^ 56)) [
                    | inl lt ↦ rw (lt-ltb n (2 ^ 56) lt) (short_spelled 7 n (omega arith) lt (λ _. ge))
                    | inr ge ↦ rw (le-ltb n (2 ^ 56) ge) (long_spelled n ge small)
                  ])
                ])
              ])
            ])
          ])
        ])
      ])
    ]

-- the header of so many bytes of serial types, with the spelling of its size in front
pub record HasHeader (types size : ℕ) : Type 0 where
  pub is_size : IsHeaderSize types size
  pub len : ℕ
  pub front : Spelled size len
  pub total : len + types ≡ size

header_of : (types k : ℕ) → k < 8 → suc k + types < 128 ^ suc k → (1 ≤ k → 128 ^ k ≤ k + types) → ((fewer : ℕ) → 1 ≤ fewer → fewer < k → 128 ^ fewer ≤ fewer + types) → HasHeader types (suc k + types)
header_of types k few room last before = record {
  is_size = record {
    len = suc k;
    total = refl;
    some = omega arith;
    within = omega (arith, few);
    room = λ _. room;
    least = λ fewer some less. elim (cases_lt fewer k) [
      | inl less ↦ before fewer some less
      | inr not ↦ let same : k ≡ fewer = omega (arith, less, not) in subst (λ n. 128 ^ n ≤ n + types) same (last (omega (arith, some, same)))
    ];
  };
  len = suc k;
  front = short_spelled k (suc k + types) few room (λ some. omega (arith, last some));
  total = refl;
}

-- that fewer bytes in front would not do
none_before : (types fewer : ℕ) → 1 ≤ fewer → fewer < 1 → 128 ^ fewer ≤ fewer + types
none_before types fewer some less = absurd (omega (arith, some, less))

one_before : (types fewer : ℕ) → 2 ^ 7 ≤ types + 1 → 1 ≤ fewer → fewer < 2 → 128 ^ fewer ≤ fewer + types
one_before types fewer many some less = let same : 1 ≡ fewer = omega (arith, some, less) in subst (λ n. 128 ^ n ≤ n + types) same (omega (arith, many))

pub header : (types : ℕ) → types < 2 ^ 14 → HasHeader types (header_size types)
header types small =
    let P : ℕ → Type 0 = HasHeader types in
    let one : types + 1 < 2 ^ 7 → HasHeader types (1 + types) =
    λ lt. header_of types 0 (omega arith) (omega (arith, lt)) (λ some. absurd (omega (arith, some))) (λ f some less. absurd (omega (arith, less))) in
    elim (cases_lt (types + 1) (2 ^ 7)) [
      | inl lt ↦ rw (lt-ltb (types + 1) (2 ^ 7) lt) (subst P (omega arith) (one lt))
      | inr ge ↦ rw (le-ltb (types + 1) (2 ^ 7) ge) (elim (cases_lt (types + 2) (2 ^ 14)) [
        | inl lt ↦ rw (lt-ltb (types + 2) (2 ^ 14) lt) (subst P (omega arith) (header_of types 1 (omega arith) (omega (arith, lt)) (λ _. omega (arith, ge)) (none_before types)))
        | inr more ↦ rw (le-ltb (types + 2) (2 ^ 14) more) (subst P (omega arith)
            (header_of types 2 (omega arith) (omega (arith, small)) (λ _. omega (arith, more)) (λ f. one_before types f ge)))
      ])
    ]
