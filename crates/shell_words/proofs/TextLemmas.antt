-- Texts with a byte that stands in them once, and numbers.
use Rattle.std.proofs.Common.{◌≡◌, ◌≢◌, ◌⊎◌, inl, inr, ℕ, ◌<◌, ◌^◌, List, [], ◌∷◌, ◌++◌, length, refl, sym, ap, ◌∙◌, arith}
use Rattle.std.specs.Fmt.{decimal}
use Rattle.std.specs.Int.{IsInRange}
use Rattle.std.specs.List.{AllByRecursion}
use Rattle.std.specs.Str.Parse.{AllDigits}
use Rattle.std.proofs.lemmas.Fmt.{decimal_is_IsNumeral, decimal_injective}
use Rattle.std.proofs.lemmas.Str.Parse.{tells_digits}
use Rattle.shell_words.specs.Plan.{IsCount}

pub no_first : {A : Type 0} (x : A) (xs : List A) → x ∷ xs ≢ []
no_first x xs e = omega (arith, ap length e)

pub same_first : {A : Type 0} (x y : A) (xs ys : List A) → x ∷ xs ≡ y ∷ ys → (x ≡ y) × (xs ≡ ys)
same_first x y xs ys e = (cc, cc)

pub same_back : (front xs ys : List ℕ) → front ++ xs ≡ front ++ ys → xs ≡ ys
same_back [] xs ys e = e
same_back (x ∷ front) xs ys e = same_back front xs ys ((same_first x x (front ++ xs) (front ++ ys) e).1)

-- no byte is this one
abbrev pub Lacks : ℕ → List ℕ → Type 0
Lacks mark bytes = AllByRecursion (λ b. b ≢ mark) bytes

-- nothing, or the byte and what stands behind it
abbrev pub BeginsWith : ℕ → List ℕ → Type 0
BeginsWith mark [] = Unit {0}
BeginsWith mark (b ∷ bytes) = b ≡ mark

-- what stands before the first such byte is one text
pub one_front : (mark : ℕ) (a b x y : List ℕ) → Lacks mark a → Lacks mark b → BeginsWith mark x → BeginsWith mark y → a ++ x ≡ b ++ y → (a ≡ b) × (x ≡ y)
one_front mark [] [] x y lacks none begins ends e = (refl, e)
one_front mark [] (c ∷ b) [] y lacks none begins ends e = absurd (no_first c (b ++ y) (sym e))
one_front mark [] (c ∷ b) (d ∷ x) y lacks none begins ends e = absurd (none.0 (sym (same_first d c x (b ++ y) e).0 ∙ begins))
one_front mark (c ∷ a) [] x [] lacks none begins ends e = absurd (no_first c (a ++ x) e)
one_front mark (c ∷ a) [] x (d ∷ y) lacks none begins ends e = absurd (lacks.0 ((same_first c d (a ++ x) y e).0 ∙ ends))
one_front mark (c ∷ a) (d ∷ b) x y lacks none begins ends e =
    let both = same_first c d (a ++ x) (b ++ y) e in
    let rest = one_front mark a b x y lacks.1 none.1 begins ends both.1 in
    (λ i. both.0 i ∷ rest.0 i, rest.1)

pub both_lack : (mark : ℕ) (a b : List ℕ) → Lacks mark a → Lacks mark b → Lacks mark (a ++ b)
both_lack mark [] b p q = q
both_lack mark (c ∷ a) b p q = (p.0, both_lack mark a b p.1 q)

-- ---- numbers

digits_lack : (mark : ℕ) (digits : List ℕ) → (mark < 48) ⊎ (57 < mark) → AllDigits 10 digits → Lacks mark digits
digits_lack mark [] out all = tt
digits_lack mark (c ∷ digits) out all =
    let parts = tells_digits.parts c digits all in
    (λ e. differs out e parts.0, digits_lack mark digits out parts.1)
  where
    differs : (mark < 48) ⊎ (57 < mark) → c ≡ mark → IsInRange 48 57 c → ⊥
    differs (inl low) e within = omega (arith, e, within, low)
    differs (inr high) e within = omega (arith, e, within, high)

pub number_lacks : (mark n : ℕ) → (mark < 48) ⊎ (57 < mark) → n < 2 ^ 64 → Lacks mark (decimal n)
number_lacks mark n out small = digits_lack mark (decimal n) out (decimal_is_IsNumeral n small).0.1

pub one_number : (least most : ℕ) (word another : List ℕ) (n m : ℕ) → most < 2 ^ 64 → IsCount least most word n → IsCount least most another m → word ≡ another → n ≡ m
one_number least most word another n m small is are e =
    decimal_injective n m (omega (arith, small, is.no_more)) (omega (arith, small, are.no_more)) (sym is.spelled ∙ e ∙ are.spelled)
