use Rattle.std.proofs.Common.{ℤ, List, length, take, ap, ◌≡◌, ℕ, ◌-◌, ◌^◌, ◌≤◌, ◌<◌, nat_lt, if◌then◌else◌, inl, inr, sym, ◌∙◌, subst, arith}
use Rattle.std.proofs.lemmas.Bool.{cases_lt}
use Rattle.std.proofs.lemmas.Bool.Decides.{nat_tests}
use Rattle.std.proofs.lemmas.List.{length-take-le}
use Rattle.std.specs.Int.{w64, cast_unsigned}
use Rattle.std.proofs.Math.Nat.{pow-le-pow_right}
use Rattle.db_format.proofs.VarintLemmas.{no_shorter}
use Rattle.db_format.specs.Spill.{local_size}
use Rattle.db_format.specs.Varint.{IsSize, IsVarint, IsShortest}
use Rattle.tree_page.specs.Written.{varint_size}
use Rattle.tree_page.specs.Steps.{Lays, LaysVarint}

-- one more test of a size: the bits fit here, or are longer
if_size : (bits at rest : ℕ) → 1 ≤ at → at < 9 → (1 < at → 128 ^ (at - 1) ≤ bits) → (128 ^ at ≤ bits → IsSize bits rest) → IsSize bits (if nat_lt bits (128 ^ at) then at else rest)
if_size bits at rest some within needed more = elim (cases_lt bits (128 ^ at)) [
  | inl below ↦
      let e : (if nat_lt bits (128 ^ at) then at else rest) ≡ at = grind (arith, nat_tests) in
      subst (IsSize bits) (sym e) (record { some = some; within = omega arith; room = λ _. below; needed = needed })
  | inr past ↦
      let e : (if nat_lt bits (128 ^ at) then at else rest) ≡ rest = grind (arith, nat_tests) in
      subst (IsSize bits) (sym e) (more past)
]

-- the number is the size of the shortest spelling
pub sized : (bits : ℕ) → IsSize bits (varint_size bits)
unfolding varint_size
sized bits =
    if_size bits 1 _ (omega arith) (omega arith) (λ more. absurd (omega (arith, more)))
    (λ h. if_size bits 2 _ (omega arith) (omega arith) (λ _. h)
    (λ h. if_size bits 3 _ (omega arith) (omega arith) (λ _. h)
    (λ h. if_size bits 4 _ (omega arith) (omega arith) (λ _. h)
    (λ h. if_size bits 5 _ (omega arith) (omega arith) (λ _. h)
    (λ h. if_size bits 6 _ (omega arith) (omega arith) (λ _. h)
    (λ h. if_size bits 7 _ (omega arith) (omega arith) (λ _. h)
    (λ h. if_size bits 8 _ (omega arith) (omega arith) (λ _. h)
    (λ h. record { some = omega arith; within = omega arith; room = λ far. absurd (omega (arith, far)); needed = λ _. h }))))))))

no_longer : (bits a b : ℕ) → IsSize bits a → IsSize bits b → a ≤ b
no_longer bits a b p q =
    elim (cases_lt b a) [
      | inl less ↦
          let grows : 128 ^ b ≤ 128 ^ (a - 1) = pow-le-pow_right {n = 128} (omega arith) {i = b} {j = a - 1} (omega arith) in
          absurd (omega (arith, p.needed (omega (arith, q.some)), q.room (omega (arith, p.within))))
      | inr le ↦ le
    ]

pub size_is : (bits len : ℕ) → IsSize bits len → len ≡ varint_size bits
size_is bits len size = omega (arith, no_longer bits len (varint_size bits) size (sized bits), no_longer bits (varint_size bits) len (sized bits) size)

pub size_most : (bits : ℕ) → varint_size bits ≤ 9
size_most bits = (sized bits).within

pub size_least : (bits : ℕ) → 1 ≤ varint_size bits
size_least bits = (sized bits).some

-- a spelling is no shorter
pub size_spelled : (text : List ℕ) (value : ℤ) (bits : ℕ) → bits ≡ cast_unsigned w64 value → IsVarint text value → varint_size bits ≤ length text
size_spelled text value bits is spelled = no_shorter value bits (varint_size bits) is (sized bits).within (sized bits).needed text spelled

-- the shortest varint of a number, laid at a place
pub lays_varint : (value given : ℤ) (old new into : List ℕ) (place len : ℕ) → given ≡ value → IsSize (cast_unsigned w64 given) len → length into ≡ 9
    → IsVarint (take len into) given → IsShortest (take len into) given → Lays old new place (take len into) → LaysVarint old new place value len
lays_varint value given old new into place len given_is size into_is spelled shortest lays = record {
  text = take len into;
  spelled = subst (IsVarint (take len into)) given_is spelled;
  shortest = subst (IsShortest (take len into)) given_is shortest;
  length_is = length-take-le len into (omega (arith, size.within));
  size_is = size_is _ len size ∙ ap (λ v. varint_size (cast_unsigned w64 v)) given_is;
  lays = lays;
}

pub local_most : (usable payload : ℕ) → 480 ≤ usable → usable ≤ 65536 → local_size usable payload ≤ 65536
local_most usable payload least most = grind (arith, nat_tests)
