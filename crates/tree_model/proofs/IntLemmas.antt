-- The order of integers, by test and by fact.
use Rattle.std.proofs.Common.{◌≡◌, Bool, true, false, ℤ, pos, ◌+ℤ◌, ◌≤ℤ◌, ◌<ℤ◌, int_le, refl, arith}

pub le_lt_ℤ : (a b c : ℤ) → a ≤ℤ b → b <ℤ c → a <ℤ c
le_lt_ℤ a b c h k = grind (arith, h, k)

pub lt_trans_ℤ : (a b c : ℤ) → a <ℤ b → b <ℤ c → a <ℤ c
lt_trans_ℤ a b c h k = grind (arith, h, k)

pub le_trans_ℤ : (a b c : ℤ) → a ≤ℤ b → b ≤ℤ c → a ≤ℤ c
le_trans_ℤ a b c h k = grind (arith, h, k)

pub lt_le_ℤ : (a b : ℤ) → a <ℤ b → a ≤ℤ b
lt_le_ℤ a b h = grind (arith, h)

pub antisym_ℤ : (a b : ℤ) → a ≤ℤ b → b ≤ℤ a → a ≡ b
antisym_ℤ a b h k = grind (arith, h, k)

pub next_ℤ : (a b : ℤ) → a <ℤ b → (a +ℤ pos 1) ≤ℤ b
next_ℤ a b h = grind (arith, h)

pub le_is : (a b : ℤ) → a ≤ℤ b → int_le a b ≡ true
le_is a b h = grind (arith, h)

pub not_le_is : (a b : ℤ) → b <ℤ a → int_le a b ≡ false
not_le_is a b h = grind (arith, h)

pub is_le : (a b : ℤ) → int_le a b ≡ true → a ≤ℤ b
is_le a b h = grind (arith, h)

pub is_not_le : (a b : ℤ) → int_le a b ≡ false → b <ℤ a
is_not_le a b h = grind (arith, h)

pub by_le : {P : Type 0} (a b : ℤ) → (a ≤ℤ b → P) → (b <ℤ a → P) → P
by_le {P} a b below above = by (int_le a b) refl
  where
    by : (t : Bool) → int_le a b ≡ t → P
    by true e = below (is_le a b e)
    by false e = above (is_not_le a b e)
