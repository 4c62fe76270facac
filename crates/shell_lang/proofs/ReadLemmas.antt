-- Numbers, words and fronts as they are read.
use Rattle.std.proofs.Common.{◌≡◌, ◌≢◌, ℕ, ℤ, pos, negsuc, ◌<◌, ◌≤◌, ◌^◌, Bool, true, false, List, [], ◌∷◌, ◌++◌, length, take, drop, subst, sym, ap, ◌∙◌, arith, Result, Ok, Option, Some, None, MatchOption, Bor, ◌+◌, to_z, of_z, refl, All, cond}
use Rattle.std.specs.Fmt.{signed_decimal, decimal}
use Rattle.std.specs.Int.{w64}
use Rattle.std.proofs.lemmas.Int.{to_z-of_z}
use Rattle.std.specs.Prelude.{FitsSigned, int_le, nat_le}
use Rattle.std.specs.List.{AllByRecursion, slice_split, onto_first}
use Rattle.std.specs.Str.{IsUtf8, bytes_eq}
use Rattle.std.specs.Str.Parse.{ParsesSigned, AllDigits}
use Rattle.std.proofs.lemmas.Bool.Decides.{nat_tests}
use Rattle.std.proofs.lemmas.Fmt.{signed_decimal_injective, IsAscii-signed, parse-signed_decimal, decimal_is_IsNumeral, decimal_nonempty}
use Rattle.std.proofs.lemmas.List.{take_at, take-append-drop}
use Rattle.std.proofs.lemmas.List.Elements.{All-nil, All-cons, All-head, All-tail, All-from_recursion}
use Rattle.std.proofs.lemmas.List.Splits.{slice_split_none, slice_split_at, join_with_byte-slice_split}
use Rattle.std.proofs.lemmas.Slice.Eq.{bytes_eq-Decides}
use Rattle.std.proofs.lemmas.Str.{IsUtf8-from_ascii}
use Rattle.std.proofs.lemmas.Str.Parse.{tells_digits}
use Rattle.shell_lang.specs.Command.{IsWord, joined, greatest_number}
use Rattle.shell_lang.specs.CommandSteps.{is_blank, BeginsWith}

-- what is no text is no number
pub not_number_by_text : (number : List ℕ) (z : ℤ) → FitsSigned w64 z → ¬ (IsUtf8 number) → number ≢ signed_decimal z
not_number_by_text number z fits no_text e =
    no_text (subst IsUtf8 (sym e) (IsUtf8-from_ascii (signed_decimal z) (IsAscii-signed z fits.sfits)))

-- what is a number is read as it
pub read_as : {E : Type 0} (text : List ℕ) (z : ℤ) (r : Result ℤ E) → FitsSigned w64 z → text ≡ signed_decimal z → ParsesSigned w64 10 text r → r ≡ Ok z
read_as text z r fits e parses = parse-signed_decimal w64 z text r fits fits.sfits e parses

-- what is a number is printed as it was written
pub not_other : {E : Type 0} (number text shown : List ℕ) (z rowid : ℤ) (r : Result ℤ E) → FitsSigned w64 z → number ≡ signed_decimal z → text ≡ number
    → ParsesSigned w64 10 text r → r ≡ Ok rowid → shown ≡ signed_decimal (to_z w64 (of_z w64 rowid)) → bytes_eq shown number ≡ false → ⊥
not_other number text shown z rowid r fits is text_is parses was shown_is differ =
    let parsed : r ≡ Ok z = read_as text z r fits (text_is ∙ is) parses in
    let same : rowid ≡ z = cc in
    let shown_same : shown ≡ number = shown_is ∙ ap (λ n. signed_decimal (to_z w64 (of_z w64 n))) same ∙ ap signed_decimal (to_z-of_z w64 z fits) ∙ sym is in
    let passes : bytes_eq shown number ≡ true = (bytes_eq-Decides shown number).1 shown_same in
    let wrong : true ≡ false = sym passes ∙ differ in
    cc

-- fronts
front_true : (text front rest : List ℕ) → bytes_eq (take (length front) text) front ≡ true → rest ≡ drop (length front) text → text ≡ front ++ rest
front_true text front rest same is =
    sym (take-append-drop (length front) text)
    ∙ ap (λ f. f ++ drop (length front) text) ((bytes_eq-Decides (take (length front) text) front).0 same)
    ∙ ap (λ r. front ++ r) (sym is)

front_false : (text front : List ℕ) → bytes_eq (take (length front) text) front ≡ false → (rest : List ℕ) → text ≢ front ++ rest
front_false text front other rest e =
    let same : take (length front) text ≡ front = ap (take (length front)) e ∙ take_at front rest (length front) refl in
    let passes : bytes_eq (take (length front) text) front ≡ true = (bytes_eq-Decides (take (length front) text) front).1 same in
    let wrong : true ≡ false = sym passes ∙ other in
    cc

pub after_front : (text front : List ℕ) (r : Option (Bor (List ℕ)))
    → MatchOption r (bytes_eq (take (length front) text) front ≡ false)
    (λ x. (bytes_eq (take (length front) text) front ≡ true) × (x.now ≡ drop (length front) text) × (length x.now + length front ≡ length text))
    → MatchOption r ((rest : List ℕ) → text ≢ front ++ rest) (λ rest. text ≡ front ++ rest.now)
after_front text front None h = front_false text front h
after_front text front (Some x) h = front_true text front x.now h.0 h.1

-- no byte is a blank
abbrev pub HasNoBlank : List ℕ → Type 0
HasNoBlank bytes = All (λ b. b ≢ 32) bytes

other_byte : (b : ℕ) → b ≢ 32 → is_blank b ≡ false
other_byte b h = grind (arith, nat_tests)

no_blank_byte : (b : ℕ) → is_blank b ≡ false → b ≢ 32
no_blank_byte b h e = let wrong : true ≡ false = sym (ap is_blank e) ∙ h in cc

blank_free : (bytes : List ℕ) → HasNoBlank bytes → All (λ b. is_blank b ≡ false) bytes
blank_free bytes h = λ k d within. other_byte _ (h k d within)

digits_no_blank : (ds : List ℕ) → AllDigits 10 ds → AllByRecursion (λ b. b ≢ 32) ds
digits_no_blank [] h = tt
digits_no_blank (c ∷ cs) h =
    let parts = tells_digits.parts c cs h in
    (λ e. omega (arith, e, parts.0), digits_no_blank cs parts.1)

pub decimal_no_blank : (n : ℕ) → n < 2 ^ 64 → HasNoBlank (decimal n)
decimal_no_blank n small = All-from_recursion (λ b. b ≢ 32) (decimal n) (digits_no_blank (decimal n) (decimal_is_IsNumeral n small).0.1)

pub number_some : (z : ℤ) → FitsSigned w64 z → 1 ≤ length (signed_decimal z)
number_some (pos n) fits = let small : n < 2 ^ 63 = fits.sfits in decimal_nonempty n (omega (arith, small))
number_some (negsuc n) fits = omega arith

-- the first blank stands in one place
pub first_blank : (a b x y : List ℕ) → HasNoBlank a → HasNoBlank b → a ++ 32 ∷ x ≡ b ++ 32 ∷ y → (a ≡ b) × (x ≡ y)
first_blank [] [] x y p q e = (refl, cc)
first_blank [] (c ∷ b) x y p q e = let here : c ≡ 32 = cc in absurd (All-head (λ n. n ≢ 32) c b q here)
first_blank (d ∷ a) [] x y p q e = let here : d ≡ 32 = cc in absurd (All-head (λ n. n ≢ 32) d a p here)
first_blank (d ∷ a) (c ∷ b) x y p q e =
    let head : d ≡ c = cc in
    let tail : a ++ 32 ∷ x ≡ b ++ 32 ∷ y = cc in
    let rest = first_blank a b x y (All-tail (λ n. n ≢ 32) d a p) (All-tail (λ n. n ≢ 32) c b q) tail in
    (ap (λ n. n ∷ a) head ∙ ap (λ ns. c ∷ ns) rest.0, rest.1)

pub not_blank : (a x : List ℕ) → HasNoBlank (a ++ 32 ∷ x) → ⊥
not_blank [] x h = All-head (λ n. n ≢ 32) 32 x h refl
not_blank (c ∷ a) x h = not_blank a x (All-tail (λ n. n ≢ 32) c (a ++ 32 ∷ x) h)

-- the words of a text, one more and the last
pub next_some : (text word rest : List ℕ) → text ≡ word ++ 32 ∷ rest → HasNoBlank word → slice_split is_blank text ≡ word ∷ slice_split is_blank rest
next_some text word rest e free = ap (slice_split is_blank) e ∙ slice_split_at is_blank word 32 rest (blank_free word free) refl

pub next_none : (text : List ℕ) → HasNoBlank text → slice_split is_blank text ≡ text ∷ []
next_none text free = slice_split_none is_blank text (blank_free text free)

-- words that are joined are found again
pub words_again : (words : List (List ℕ)) → 1 ≤ length words → All IsWord words → slice_split is_blank (joined words) ≡ words
words_again [] some each = absurd (omega arith)
words_again (x ∷ []) some each = let is = All-head IsWord x [] each in next_none x is.unbroken
words_again (x ∷ y ∷ ys) some each =
    let is = All-head IsWord x (y ∷ ys) each in
    next_some (joined (x ∷ y ∷ ys)) x (joined (y ∷ ys)) refl is.unbroken
    ∙ ap (λ ws. x ∷ ws) (words_again (y ∷ ys) (omega arith) (All-tail IsWord x (y ∷ ys) each))

pub words_join : (text : List ℕ) → joined (slice_split is_blank text) ≡ text
words_join text = join_with_byte-slice_split 32 text

-- no word of a text has a blank
one_more : (b : ℕ) (parts : List (List ℕ)) (test : Bool) → is_blank b ≡ test → All HasNoBlank parts → All HasNoBlank (cond test ([] ∷ parts) (onto_first b parts))
one_more b parts true e h = All-cons HasNoBlank [] parts (All-nil (λ n. n ≢ 32)) h
one_more b [] false e h =
    All-cons HasNoBlank (b ∷ []) [] (All-cons (λ n. n ≢ 32) b [] (no_blank_byte b e) (All-nil (λ n. n ≢ 32))) (All-nil HasNoBlank)
one_more b (p ∷ ps) false e h =
    All-cons HasNoBlank (b ∷ p) ps (All-cons (λ n. n ≢ 32) b p (no_blank_byte b e) (All-head HasNoBlank p ps h)) (All-tail HasNoBlank p ps h)

pub words_unbroken : (text : List ℕ) → All HasNoBlank (slice_split is_blank text)
words_unbroken [] = All-cons HasNoBlank [] [] (All-nil (λ n. n ≢ 32)) (All-nil HasNoBlank)
words_unbroken (b ∷ bs) = one_more b (slice_split is_blank bs) (is_blank b) refl (words_unbroken bs)

-- the numbers of connections
pub small_fits : (n : ℕ) → n ≤ greatest_number → FitsSigned w64 (pos n)
small_fits n small = record { sfits = omega (arith, small) }

pub small_is : (word : List ℕ) (z : ℤ) (n : ℕ) → FitsSigned w64 z → n ≤ greatest_number → word ≡ signed_decimal z → word ≡ decimal n → z ≡ pos n
small_is word z n fits small is also = signed_decimal_injective z (pos n) fits.sfits (small_fits n small).sfits (sym is ∙ also)

pub not_above : (z : ℤ) (n : ℕ) → FitsSigned w64 z → z ≡ pos n → n ≤ greatest_number → int_le (to_z w64 (of_z w64 z)) (pos 999) ≡ false → ⊥
not_above z n fits same small past =
    let above : nat_le n 999 ≡ false = sym (ap (λ y. int_le y (pos 999)) (to_z-of_z w64 z fits ∙ same)) ∙ past in
    let low : n ≤ 999 = small in
    grind (arith, nat_tests)

pub not_below : (z : ℤ) (n : ℕ) → FitsSigned w64 z → z ≡ pos n → int_le (pos 0) (to_z w64 (of_z w64 z)) ≡ false → ⊥
not_below z n fits same past =
    let below : nat_le 0 n ≡ false = sym (ap (λ y. int_le (pos 0) y) (to_z-of_z w64 z fits ∙ same)) ∙ past in
    grind (arith, nat_tests)

pub no_named_blank : (named : List ℕ) → HasNoBlank named → (number : ℕ) (text : List ℕ) → BeginsWith named number text → ⊥
no_named_blank named free number text begins = not_blank (decimal number) text (subst HasNoBlank begins.spelled free)

named_parts : (named word text : List ℕ) (number : ℕ) (text' : List ℕ) → named ≡ word ++ 32 ∷ text → HasNoBlank word → BeginsWith named number text'
    → (word ≡ decimal number) × (text ≡ text')
named_parts named word text number text' is free begins =
    let small : number ≤ 999 = begins.short in
    first_blank word (decimal number) text text' free (decimal_no_blank number (omega (arith, small))) (sym is ∙ begins.spelled)

pub no_named_number : (named word text : List ℕ) → named ≡ word ++ 32 ∷ text → HasNoBlank word → ((number : ℕ) → number ≤ greatest_number → word ≢ decimal number)
    → (number : ℕ) (text' : List ℕ) → BeginsWith named number text' → ⊥
no_named_number named word text is free none number text' begins =
    none number begins.short (named_parts named word text number text' is free begins).0
