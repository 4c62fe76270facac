-- Numbers that stand in a list once or twice, and lists of different numbers.
use Rattle.std.proofs.Common.{◌≡◌, ◌≢◌, ◌⊎◌, ℕ, zero, suc, ◌+◌, ◌≤◌, ◌<◌, List, [], ◌∷◌, ◌++◌, length, take, get_or, refl, ap, subst, ◌∙◌, inl, inr, arith}
use Rattle.std.proofs.lemmas.List.{take_more}
use Rattle.page_list.specs.Pages.{times, Among, AllDifferent}
use Rattle.page_list.proofs.ChainLemmas.{times-append, same_or_other}

pub times_cons : (n x : ℕ) (xs : List ℕ) → times n (x ∷ xs) ≡ times n (x ∷ []) + times n xs
times_cons n x xs = omega arith

pub times_more : (n i : ℕ) (xs : List ℕ) → i < length xs → times n (take (i + 1) xs) ≡ times n (take i xs) + times n (get_or xs i 0 ∷ [])
times_more n i xs within = ap (times n) (take_more xs i 0 within) ∙ times-append n (take i xs) (get_or xs i 0 ∷ [])

-- the place of a number that stands in a list
pub record IsAtPlace (n : ℕ) (xs : List ℕ) : Type 0 where
  pub at : ℕ
  pub within : at < length xs
  pub here : get_or xs at 0 ≡ n

pub place_of : (n : ℕ) (xs : List ℕ) → Among xs n → IsAtPlace n xs
place_of n [] some = absurd (omega (arith, some))
place_of n (x ∷ xs) some =
    elim (same_or_other n x) [
      | inl s ↦ record { at = 0; within = omega arith; here = s.0 }
      | inr o ↦ (
          let more = place_of n xs (omega (arith, some, o.1, times_cons n x xs)) in
          record { at = suc more.at; within = omega (arith, more.within); here = more.here })
    ]

pub among_at : (xs : List ℕ) (i : ℕ) → i < length xs → Among xs (get_or xs i 0)
among_at [] i within = absurd (omega arith)
among_at (x ∷ xs) zero within = elim (same_or_other x x) [ inl s ↦ omega (arith, s.1, times_cons x x xs) | inr o ↦ absurd (o.0 refl) ]
among_at (x ∷ xs) (suc i) within = let n = get_or xs i 0 in omega (arith, among_at xs i (omega arith), times_cons n x xs)

none_or_some : (m : ℕ) → (m ≡ 0) ⊎ (1 ≤ m)
none_or_some zero = inl refl
none_or_some (suc m) = inr (omega arith)

pub different_of : (xs : List ℕ) → ((k : ℕ) → k < length xs → times (get_or xs k 0) xs ≤ 1) → AllDifferent xs
different_of xs each = record {
  once = λ n. elim (none_or_some (times n xs)) [
    | inl none ↦ omega (arith, none)
    | inr some ↦ (
        let p = place_of n xs some in
        let P : ℕ → Type 0 = λ m. times m xs ≤ 1 in
        subst P p.here (each p.at p.within))
  ];
}

-- a number of two lists stands in one of them
pub among_either : (n : ℕ) (xs ys : List ℕ) → Among (xs ++ ys) n → Among xs n ⊎ Among ys n
among_either n xs ys some = elim (none_or_some (times n xs)) [ inl none ↦ inr (omega (arith, some, none, times-append n xs ys)) | inr here ↦ inl here ]

-- ---- different numbers from 1 to a greatest are no more than it

abbrev upto : ℕ → List ℕ → ℕ
upto zero xs = 0
upto (suc n) xs = times (suc n) xs + upto n xs

upto_few : (n : ℕ) (xs : List ℕ) → AllDifferent xs → upto n xs ≤ n
upto_few zero xs d = omega arith
upto_few (suc n) xs d = omega (arith, d.once (suc n), upto_few n xs d)

upto_beyond : (n x : ℕ) (xs : List ℕ) → n < x → upto n (x ∷ xs) ≡ upto n xs
upto_beyond zero x xs above = refl
upto_beyond (suc n) x xs above =
    elim (same_or_other (suc n) x) [
      | inl s ↦ absurd (omega (arith, s.0))
      | inr o ↦ omega (arith, o.1, times_cons (suc n) x xs, upto_beyond n x xs (omega arith))
    ]

below : (x n : ℕ) → x ≤ suc n → x ≢ suc n → x ≤ n
below x n within other = omega arith

upto_none : (n : ℕ) → upto n [] ≡ 0
upto_none zero = refl
upto_none (suc n) = omega (arith, upto_none n)

upto_cons : (n x : ℕ) (xs : List ℕ) → 1 ≤ x → x ≤ n → upto n (x ∷ xs) ≡ suc (upto n xs)
upto_cons zero x xs some within = absurd (omega arith)
upto_cons (suc n) x xs some within =
    elim (same_or_other (suc n) x) [
      | inl s ↦ omega (arith, s.1, times_cons (suc n) x xs, upto_beyond n x xs (omega (arith, s.0)))
      | inr o ↦ omega (arith, o.1, times_cons (suc n) x xs, upto_cons n x xs some (below x n within o.0))
    ]

upto_all : (n : ℕ) (xs : List ℕ) → ((k : ℕ) → Among xs k → (1 ≤ k) × (k ≤ n)) → upto n xs ≡ length xs
upto_all n [] each = upto_none n
upto_all n (x ∷ xs) each =
    let here = each x (among_at (x ∷ xs) 0 (omega arith)) in
    upto_cons n x xs here.0 here.1 ∙ ap suc (upto_all n xs (λ k some. each k (omega (arith, some, times_cons k x xs))))

pub pigeons : (n : ℕ) (xs : List ℕ) → AllDifferent xs → ((k : ℕ) → Among xs k → (1 ≤ k) × (k ≤ n)) → length xs ≤ n
pigeons n xs d each = omega (arith, upto_few n xs d, upto_all n xs each)
