-- Places and the pages that they lie on.
use Rattle.std.proofs.Common.{◌≡◌, ◌⊎◌, ℕ, ◌+◌, ◌*◌, ◌/◌, ◌%◌, ◌<◌, ◌≤◌, inl, inr, ap, sym, ◌∙◌, arith, add-one}
use Rattle.std.proofs.Math.Nat.{mul-suc, mul-le-mul_left}

-- a place lies on its page, and the next page begins behind it
pub record Row (page place : ℕ) : Type 0 where
  pub from : page * (place / page) ≤ place
  pub to : place < page * (place / page) + page
  pub next : page * (place / page + 1) ≡ page * (place / page) + page

pub next_page : (page number : ℕ) → page * (number + 1) ≡ page * number + page
next_page page number = ap (λ n. page * n) (add-one number) ∙ mul-suc page number

pub row : (page place : ℕ) → 1 ≤ page → Row page place
row page place some = record { from = omega arith; to = omega arith; next = next_page page (place / page) }

-- of two pages the first ends before the second begins
pub before : (page a b : ℕ) → a < b → page * a + page ≤ page * b
before page a b less = let h : page * (a + 1) ≤ page * b = mul-le-mul_left page (omega (arith, less)) in omega (arith, h, next_page page a)

pub row_is : (page number place : ℕ) → 1 ≤ page → page * number ≤ place → place < page * number + page → place / page ≡ number
row_is page number place some from to =
    let r = row page place some in
    elim (order number (place / page)) as (λ _. place / page ≡ number) [
      | inl same ↦ sym same
      | inr (inl less) ↦ absurd (omega (arith, before page number (place / page) less, r.from, to))
      | inr (inr more) ↦ absurd (omega (arith, before page (place / page) number more, r.to, from))
    ] where
      order : (a b : ℕ) → (a ≡ b) ⊎ ((a < b) ⊎ (b < a))
      order a b = grind arith

-- a place before the beginning of a page lies on one that ends before it, and one behind it on one that does not begin before it
pub row_before : (page off place : ℕ) → 1 ≤ page → off % page ≡ 0 → place < off → page * (place / page) + page ≤ off
row_before page off place some at less =
    let r = row page place some in
    let s = row page off some in
    let e : page * (off / page) ≡ off = omega arith in
    elim (side (off / page) (place / page)) as (λ _. page * (place / page) + page ≤ off) [
      | inl h ↦ absurd (omega (arith, (mul-le-mul_left page h), r.from, e, less))
      | inr h ↦ omega (arith, before page (place / page) (off / page) h, e)
    ] where
      side : (a b : ℕ) → (a ≤ b) ⊎ (b < a)
      side a b = grind arith

pub row_behind : (page off place : ℕ) → 1 ≤ page → off % page ≡ 0 → off ≤ place → off ≤ page * (place / page)
row_behind page off place some at from =
    let r = row page place some in
    let e : page * (off / page) ≡ off = omega arith in
    elim (side (off / page) (place / page)) as (λ _. off ≤ page * (place / page)) [
      | inl h ↦ omega (arith, (mul-le-mul_left page h), e)
      | inr h ↦ absurd (omega (arith, before page (place / page) (off / page) h, r.to, e, from))
    ] where
      side : (a b : ℕ) → (a ≤ b) ⊎ (b < a)
      side a b = grind arith

-- a place behind a page lies on one that does not begin before the end of it
pub row_past : (page off place : ℕ) → 1 ≤ page → off % page ≡ 0 → off + page ≤ place → off + page ≤ page * (place / page)
row_past page off place some at from =
    let r = row page place some in
    let e : page * (off / page) ≡ off = omega arith in
    elim (side (place / page) (off / page)) as (λ _. off + page ≤ page * (place / page)) [
      | inl h ↦ absurd (omega (arith, (mul-le-mul_left page h), r.to, e, from))
      | inr h ↦ omega (arith, before page (off / page) (place / page) h, e)
    ] where
      side : (a b : ℕ) → (a ≤ b) ⊎ (b < a)
      side a b = grind arith
