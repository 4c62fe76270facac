use Rattle.std.proofs.Common.{◌≡◌, ◌≢◌, ℕ, suc, ℤ, pos, negsuc, ◌<◌, ◌≤◌, ◌^◌, true, false, List, [], ◌∷◌, ◌++◌, length, take, drop, codes, length-append, subst, sym, ap, ◌∙◌, arith, Result, Ok, Option, Some, None, MatchOption, Bor, ◌+◌, to_z, of_z, refl}
use Rattle.std.specs.Fmt.{signed_decimal, decimal}
use Rattle.std.specs.Int.{w64}
use Rattle.std.proofs.lemmas.Int.{to_z-of_z}
use Rattle.std.specs.Prelude.{FitsSigned}
use Rattle.std.specs.List.{AllByRecursion}
use Rattle.std.specs.Str.{IsUtf8, bytes_eq}
use Rattle.std.specs.Str.Parse.{ParsesSigned, AllDigits}
use Rattle.std.proofs.lemmas.Fmt.{IsAscii-signed, parse-signed_decimal, decimal_is_IsNumeral, decimal_nonempty}
use Rattle.std.proofs.lemmas.List.{take_at, take-append-drop, append_cancel_left}
use Rattle.std.proofs.lemmas.Slice.Eq.{bytes_eq-Decides}
use Rattle.std.proofs.lemmas.Str.{IsUtf8-from_ascii}
use Rattle.std.proofs.lemmas.Str.Parse.{tells_digits}
use Rattle.shell_top.specs.Line.{IsPut, IsBad, IsTextValue}

-- what is no text is no number
pub not_number_by_text : (number : List ℕ) (z : ℤ) → FitsSigned w64 z → ¬ (IsUtf8 number) → number ≢ signed_decimal z
not_number_by_text number z fits no_text e =
    no_text (subst IsUtf8 (sym e) (IsUtf8-from_ascii (signed_decimal z) (IsAscii-signed z fits.sfits)))

-- what is a number is read as it
pub read_as : {E : Type 0} (text : List ℕ) (z : ℤ) (r : Result ℤ E) → FitsSigned w64 z → text ≡ signed_decimal z → ParsesSigned w64 10 text r → r ≡ Ok z
read_as text z r fits e parses = parse-signed_decimal w64 z text r fits fits.sfits e parses

-- no byte is a blank
abbrev pub HasNoBlank : List ℕ → Type 0
HasNoBlank bytes = AllByRecursion (λ b. b ≢ 32) bytes

digits_no_blank : (ds : List ℕ) → AllDigits 10 ds → HasNoBlank ds
digits_no_blank [] h = tt
digits_no_blank (c ∷ cs) h =
    let parts = tells_digits.parts c cs h in
    (λ e. omega (arith, e, parts.0), digits_no_blank cs parts.1)

decimal_no_blank : (n : ℕ) → n < 2 ^ 64 → HasNoBlank (decimal n)
decimal_no_blank n small = digits_no_blank (decimal n) (decimal_is_IsNumeral n small).0.1

number_no_blank : (z : ℤ) → FitsSigned w64 z → HasNoBlank (signed_decimal z)
number_no_blank (pos n) fits = let small : n < 2 ^ 63 = fits.sfits in decimal_no_blank n (omega (arith, small))
number_no_blank (negsuc n) fits =
    let small : n < 2 ^ 63 = fits.sfits in
    ((λ e. omega (arith, e)), decimal_no_blank (suc n) (omega (arith, small)))

number_some : (z : ℤ) → FitsSigned w64 z → 1 ≤ length (signed_decimal z)
number_some (pos n) fits = let small : n < 2 ^ 63 = fits.sfits in decimal_nonempty n (omega (arith, small))
number_some (negsuc n) fits = omega arith

-- the first blank stands in one place
first_blank : (a b x y : List ℕ) → HasNoBlank a → HasNoBlank b → a ++ 32 ∷ x ≡ b ++ 32 ∷ y → (a ≡ b) × (x ≡ y)
first_blank [] [] x y p q e = (refl, cc)
first_blank [] (c ∷ b) x y p q e = let here : c ≡ 32 = cc in absurd (q.0 here)
first_blank (d ∷ a) [] x y p q e = let here : d ≡ 32 = cc in absurd (p.0 here)
first_blank (d ∷ a) (c ∷ b) x y p q e =
    let head : d ≡ c = cc in
    let tail : a ++ 32 ∷ x ≡ b ++ 32 ∷ y = cc in
    let rest = first_blank a b x y p.1 q.1 tail in
    (ap (λ n. n ∷ a) head ∙ ap (λ ns. c ∷ ns) rest.0, rest.1)

not_blank : (a x : List ℕ) → HasNoBlank (a ++ 32 ∷ x) → ⊥
not_blank [] x h = h.0 refl
not_blank (c ∷ a) x h = not_blank a x h.1

pub front_true : (text front rest : List ℕ) → bytes_eq (take (length front) text) front ≡ true → rest ≡ drop (length front) text → text ≡ front ++ rest
front_true text front rest same is =
    sym (take-append-drop (length front) text)
    ∙ ap (λ f. f ++ drop (length front) text) ((bytes_eq-Decides (take (length front) text) front).0 same)
    ∙ ap (λ r. front ++ r) (sym is)

pub front_false : (text front : List ℕ) → bytes_eq (take (length front) text) front ≡ false → (rest : List ℕ) → text ≢ front ++ rest
front_false text front other rest e =
    let same : take (length front) text ≡ front = ap (take (length front)) e ∙ take_at front rest (length front) refl in
    let passes : bytes_eq (take (length front) text) front ≡ true = (bytes_eq-Decides (take (length front) text) front).1 same in
    let wrong : true ≡ false = sym passes ∙ other in
    cc

-- what a put's line says of its parts
parts_of : (line number value : List ℕ) (z : ℤ) (text : List ℕ) → line ≡ codes "put " ++ (number ++ 32 ∷ value) → HasNoBlank number → IsPut line z text
    → (number ≡ signed_decimal z) × IsTextValue value text
parts_of line number value z text is no_blank put =
    let same : number ++ 32 ∷ value ≡ signed_decimal z ++ 32 ∷ put.value = append_cancel_left (codes "put ") _ _ (sym is ∙ put.spelled) in
    let both = first_blank number (signed_decimal z) value put.value no_blank (number_no_blank z put.fits) same in
    let P : List ℕ → Type 0 = λ v. IsTextValue v text in
    (both.0, subst P (sym both.1) put.text_value)

pub bad_front : (line : List ℕ) → ((rest : List ℕ) → line ≢ codes "put " ++ rest) → IsBad line
bad_front line other = record { each = λ z text put. other (signed_decimal z ++ 32 ∷ put.value) put.spelled }

pub bad_blank : (line words : List ℕ) → line ≡ codes "put " ++ words → HasNoBlank words → IsBad line
bad_blank line words is no_blank = record {
  each = λ z text put.
      let same : words ≡ signed_decimal z ++ 32 ∷ put.value = append_cancel_left (codes "put ") _ _ (sym is ∙ put.spelled) in
      not_blank (signed_decimal z) put.value (subst HasNoBlank same no_blank);
}

pub bad_number : (line words number value : List ℕ) → line ≡ codes "put " ++ words → words ≡ number ++ 32 ∷ value → HasNoBlank number
    → ((z : ℤ) → FitsSigned w64 z → number ≢ signed_decimal z) → IsBad line
bad_number line words number value is split no_blank no_number = record {
  each = λ z text put. no_number z put.fits (parts_of line number value z text (is ∙ ap (λ w. codes "put " ++ w) split) no_blank put).0;
}

pub bad_text : (line words number value : List ℕ) → line ≡ codes "put " ++ words → words ≡ number ++ 32 ∷ value → HasNoBlank number
    → ((text : List ℕ) → ¬ (IsTextValue value text)) → IsBad line
bad_text line words number value is split no_blank no_text = record {
  each = λ z text put. no_text text (parts_of line number value z text (is ∙ ap (λ w. codes "put " ++ w) split) no_blank put).1;
}

pub is_put : (line words number value : List ℕ) (z : ℤ) (text : List ℕ) → line ≡ codes "put " ++ words → words ≡ number ++ 32 ∷ value
    → number ≡ signed_decimal z → FitsSigned w64 z → IsTextValue value text → IsPut line z text
is_put line words number value z text is split number_is fits text_value = record {
  value = value;
  spelled = is ∙ ap (λ w. codes "put " ++ w) (split ∙ ap (λ n. n ++ 32 ∷ value) number_is);
  fits = fits;
  text_value = text_value;
}

pub after_front : (text front : List ℕ) (r : Option (Bor (List ℕ)))
    → MatchOption r (bytes_eq (take (length front) text) front ≡ false)
    (λ x. (bytes_eq (take (length front) text) front ≡ true) × (x.now ≡ drop (length front) text) × (length x.now + length front ≡ length text))
    → MatchOption r ((rest : List ℕ) → text ≢ front ++ rest) (λ rest. text ≡ front ++ rest.now)
after_front text front None h = front_false text front h
after_front text front (Some x) h = front_true text front x.now h.0 h.1

-- what is a number is printed as it was written
pub not_other : {E : Type 0} (number text shown : List ℕ) (z rowid : ℤ) (r : Result ℤ E) → FitsSigned w64 z → number ≡ signed_decimal z → text ≡ number
    → ParsesSigned w64 10 text r → r ≡ Ok rowid → shown ≡ signed_decimal (to_z w64 (of_z w64 rowid)) → bytes_eq shown number ≡ false → ⊥
not_other number text shown z rowid r fits is text_is parses was shown_is differ =
    let parsed : r ≡ Ok z = read_as text z r fits (text_is ∙ is) parses in
    let same : rowid ≡ z = cc in
    let shown_same : shown ≡ number = shown_is ∙ ap (λ n. signed_decimal (to_z w64 (of_z w64 n))) same ∙ ap signed_decimal (to_z-of_z w64 z fits) ∙ sym is in
    let passes : bytes_eq shown number ≡ true = (bytes_eq-Decides shown number).1 shown_same in
    let wrong : true ≡ false = sym passes ∙ differ in
    cc

-- a put's line is longer than its text
pub put_longer_line : (line : List ℕ) (z : ℤ) (text : List ℕ) → IsPut line z text → 8 + length text ≤ length line
put_longer_line line z text put =
    let some : 1 ≤ length (signed_decimal z) = number_some z put.fits in
    omega (
      arith,
      ap length put.spelled,
      length-append (codes "put ") (signed_decimal z ++ 32 ∷ put.value),
      length-append (signed_decimal z) (32 ∷ put.value),
      some,
      ap length put.text_value.spelled,
      length-append (codes "t:") text,
    )
