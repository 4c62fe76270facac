-- How often a number stands in a list.
use Rattle.std.proofs.Common.{◌≡◌, ◌≢◌, ◌⊎◌, inl, inr, ℕ, zero, suc, ◌+◌, ◌-◌, ◌≤◌, ◌<◌, List, []}
use Rattle.std.proofs.Common.{◌∷◌, ◌++◌, length, take, drop, slice_index, refl, sym, ap, ◌∙◌, subst, arith, append_assoc}
use Rattle.std.proofs.lemmas.List.{take-append-drop, drop_all}
use Rattle.std.proofs.lemmas.Bool.Decides.{nat_tests}
use Rattle.page_list.specs.Pages.{times, Among, AllDifferent}

pub times-append : (m : ℕ) (a b : List ℕ) → times m (a ++ b) ≡ times m a + times m b
times-append m [] b = omega arith
times-append m (x ∷ a) b = omega (arith, times-append m a b)

-- a number stands once in a list of it alone, and no other does
pub times-same : (m : ℕ) → times m (m ∷ []) ≡ 1
times-same m = grind (arith, nat_tests)

pub times-other : (m x : ℕ) → x ≢ m → times m (x ∷ []) ≡ 0
times-other m x other = grind (arith, nat_tests)

-- either of the two
pub same_or_other : (m x : ℕ) → ((x ≡ m) × (times m (x ∷ []) ≡ 1)) ⊎ ((x ≢ m) × (times m (x ∷ []) ≡ 0))
same_or_other m x = grind (arith, nat_tests)

pub times_one : (m x : ℕ) → times m (x ∷ []) ≤ 1
times_one m x = grind (arith, nat_tests)

pub among-cons : (m x : ℕ) (a : List ℕ) → Among a m → Among (x ∷ a) m
among-cons m x a there = omega arith

pub among-here : (m : ℕ) (a : List ℕ) → Among (m ∷ a) m
among-here m a = omega (arith, times-same m)

pub among-front : (m : ℕ) (a b : List ℕ) → Among a m → Among (a ++ b) m
among-front m a b there = omega (arith, times-append m a b)

pub among-back : (m : ℕ) (a b : List ℕ) → Among b m → Among (a ++ b) m
among-back m a b there = omega (arith, times-append m a b)

-- a number of a list with one more at its end is that one or stood in it before
pub among-more : (m x : ℕ) (a : List ℕ) → Among (a ++ x ∷ []) m → Among a m ⊎ (x ≡ m)
among-more m x a there =
    elim (same_or_other m x) as (λ _. Among a m ⊎ (x ≡ m)) [
      | inl same ↦ inr same.0
      | inr other ↦ inl (let once = times-append m a (x ∷ []) in let none = other.1 in omega arith)
    ]

-- and so is one of a list with one more at its front
pub among-first : (m x : ℕ) (a : List ℕ) → Among (x ∷ a) m → (x ≡ m) ⊎ Among a m
among-first m x a there =
    elim (same_or_other m x) as (λ _. (x ≡ m) ⊎ Among a m) [
      | inl same ↦ inl same.0
      | inr other ↦ inr (let none = other.1 in omega arith)
    ]

pub not_among : (m : ℕ) (a : List ℕ) → ¬ (Among a m) → times m a ≤ 0
not_among m a none = omega arith

-- a list with one more at its end, which did not stand in it, has no number twice
pub different-more : (x : ℕ) (a : List ℕ) → AllDifferent a → ¬ (Among a x) → AllDifferent (a ++ x ∷ [])
different-more x a once new = record {
  once = λ m. elim (same_or_other m x) as (λ _. times m (a ++ x ∷ []) ≤ 1) [
    | inl same ↦ let joined = times-append m a (x ∷ []) in let one = same.1 in
        let P : ℕ → Type 0 = λ y. ¬ (Among a y) in
        let none : times m a ≤ 0 = not_among m a (subst P same.0 new) in omega arith
    | inr other ↦ let joined = times-append m a (x ∷ []) in let none = other.1 in let first = once.once m in omega arith
  ];
}

pub different-first : (x : ℕ) (a : List ℕ) → AllDifferent a → ¬ (Among a x) → AllDifferent (x ∷ a)
different-first x a once new = record {
  once = λ m. elim (same_or_other m x) as (λ _. times m (x ∷ a) ≤ 1) [
    | inl same ↦ let one = same.1 in
        let P : ℕ → Type 0 = λ y. ¬ (Among a y) in
        let none : times m a ≤ 0 = not_among m a (subst P same.0 new) in omega arith
    | inr other ↦ let none = other.1 in let first = once.once m in omega arith
  ];
}

steps_on : (i : ℕ) → suc i + 1 ≡ suc (i + 1)
steps_on i = omega arith

-- the front of a list goes on by its next number
pub take-next : (i : ℕ) (l : List ℕ) (x : ℕ) → i < length l → x ≡ slice_index l i → take (i + 1) l ≡ take i l ++ x ∷ []
take-next i [] x below is = absurd (omega arith)
take-next zero (y ∷ l) x below is = ap (λ z. z ∷ []) (sym is)
take-next (suc i) (y ∷ l) x below is = ap (λ m. take m (y ∷ l)) (steps_on i) ∙ ap (λ m. y ∷ m) (take-next i l x (omega arith) is)

pub split-at : (i : ℕ) (l : List ℕ) (x : ℕ) → i < length l → x ≡ slice_index l i → l ≡ take i l ++ x ∷ drop (i + 1) l
split-at i l x below is =
    sym (take-append-drop (i + 1) l) ∙ ap (λ m. m ++ drop (i + 1) l) (take-next i l x below is) ∙ append_assoc (take i l) (x ∷ []) (drop (i + 1) l)

pub among-at : (i : ℕ) (l : List ℕ) (x : ℕ) → i < length l → x ≡ slice_index l i → Among l x
among-at i l x below is =
    let P : List ℕ → Type 0 = λ m. Among m x in
    subst P (sym (split-at i l x below is)) (among-back x (take i l) (x ∷ drop (i + 1) l) (among-here x (drop (i + 1) l)))

-- a list without its last number
pub times-last : (m : ℕ) (l : List ℕ) → 0 < length l → times m l ≡ times m (take (length l - 1) l) + times m (slice_index l (length l - 1) ∷ [])
times-last m l some =
    let i : ℕ = length l - 1 in
    let last : ℕ = slice_index l i in
    let whole : i + 1 ≡ length l = omega arith in
    let none : drop (i + 1) l ≡ [] = drop_all (i + 1) l (omega arith) in
    let all : l ≡ take i l ++ last ∷ [] = split-at i l last (omega arith) refl ∙ ap (λ (r : List ℕ). take i l ++ last ∷ r) none in
    ap (λ (r : List ℕ). times m r) all ∙ times-append m (take i l) (last ∷ [])

-- how many of a list are no greater than a number, 0 left out
up_to : ℕ → List ℕ → ℕ
up_to zero l = 0
up_to (suc n) l = times (suc n) l + up_to n l

up_to-none : (n : ℕ) → up_to n [] ≡ 0
unfolding up_to
up_to-none zero = refl
up_to-none (suc n) = omega (arith, up_to-none n)

up_to-first : (n x : ℕ) (l : List ℕ) → up_to n (x ∷ l) ≡ up_to n (x ∷ []) + up_to n l
unfolding up_to
up_to-first zero x l = refl
up_to-first (suc n) x l = omega (arith, up_to-first n x l)

up_to-one : (n x : ℕ) → 1 ≤ x → x ≤ n → 1 ≤ up_to n (x ∷ [])
unfolding up_to
up_to-one zero x low high = absurd (omega arith)
up_to-one (suc n) x low high = elim (same_or_other (suc n) x) as (λ _. 1 ≤ up_to (suc n) (x ∷ [])) [
  | inl same ↦ omega (arith, same.1)
  | inr other ↦ omega (arith, up_to-one n x low (let differs = other.0 in omega arith))
]

up_to-all : (n : ℕ) (l : List ℕ) → ((x : ℕ) → Among l x → (1 ≤ x) × (x ≤ n)) → length l ≤ up_to n l
up_to-all n [] each = omega arith
up_to-all n (x ∷ l) each =
    let here = each x (among-here x l) in
    omega (arith, up_to-first n x l, up_to-one n x here.0 here.1, up_to-all n l (λ y some. each y (among-cons y x l some)))

up_to-few : (n : ℕ) (l : List ℕ) → AllDifferent l → up_to n l ≤ n
unfolding up_to
up_to-few zero l different = omega arith
up_to-few (suc n) l different = omega (arith, different.once (suc n), up_to-few n l different)

-- different numbers, each of them from 1 to another, are no more than that other
pub no_more_than : (n : ℕ) (l : List ℕ) → AllDifferent l → ((x : ℕ) → Among l x → (1 ≤ x) × (x ≤ n)) → length l ≤ n
no_more_than n l different each = omega (arith, up_to-all n l each, up_to-few n l different)
