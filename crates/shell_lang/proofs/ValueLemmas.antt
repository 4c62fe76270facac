-- Values as they are read.
use Rattle.std.proofs.Common.{◌≡◌, ℕ, ◌<◌, ◌≤◌, List, [], ◌∷◌, ◌++◌, length, length-append, refl, sym, ap, ◌∙◌, subst, arith, append_assoc, append-nil, codes, slice_index}
use Rattle.std.specs.List.{AllZip}
use Rattle.std.proofs.lemmas.Fmt.{signed_decimal_injective}
use Rattle.percent_encoding.specs.Percent.{percent_decode}
use Rattle.hex.specs.Hex.{decode_of}
use Rattle.hex.proofs.HexLemmas.{decode_of-same}
use Rattle.db_format.specs.declared.value.Value.{Value}
use Rattle.db_format.specs.declared.value.Value.TheVariants.{Null, Int, Text, Blob, Real}
use Rattle.shell_lang.specs.Command.{SpellsValue}

pub record AreReadSoFar (whole left : List (List ℕ)) (values : List Value) : Type 0 where
  pub texts : List (List ℕ)
  pub whole_is : whole ≡ texts ++ left
  pub each : AllZip SpellsValue texts values
  pub few : length values ≤ 32

pub none_yet : (whole : List (List ℕ)) (values : List Value) → values ≡ [] → AreReadSoFar whole whole values
none_yet whole values none = record {
  texts = [];
  whole_is = refl;
  each = subst (AllZip SpellsValue []) (sym none) tt;
  few = omega (arith, ap length none);
}

zip_push : (texts : List (List ℕ)) (values : List Value) (word : List ℕ) (value : Value) → AllZip SpellsValue texts values → SpellsValue word value
    → AllZip SpellsValue (texts ++ word ∷ []) (values ++ value ∷ [])
zip_push [] [] word value z s = (s, tt)
zip_push [] (v ∷ vs) word value z s = absurd z
zip_push (t ∷ ts) [] word value z s = absurd z
zip_push (t ∷ ts) (v ∷ vs) word value z s = (z.0, zip_push ts vs word value z.1 s)

zip_length : (texts : List (List ℕ)) (values : List Value) → AllZip SpellsValue texts values → length texts ≡ length values
zip_length [] [] z = refl
zip_length [] (v ∷ vs) z = absurd z
zip_length (t ∷ ts) [] z = absurd z
zip_length (t ∷ ts) (v ∷ vs) z = omega (arith, zip_length ts vs z.1)

pub one_value : (whole left left' : List (List ℕ)) (values values' : List Value) (word : List ℕ) (value : Value) → AreReadSoFar whole left values
    → left ≡ word ∷ left' → SpellsValue word value → length values < 32 → values' ≡ values ++ value ∷ [] → AreReadSoFar whole left' values'
one_value whole left left' values values' word value so_far is spelled few pushed = record {
  texts = so_far.texts ++ word ∷ [];
  whole_is = so_far.whole_is ∙ ap (λ l. so_far.texts ++ l) is ∙ sym (append_assoc so_far.texts (word ∷ []) left');
  each = subst (AllZip SpellsValue (so_far.texts ++ word ∷ [])) (sym pushed) (zip_push so_far.texts values word value so_far.each spelled);
  few = omega (arith, ap length pushed, length-append values (value ∷ []));
}

-- more than 32 words give no row
pub too_many : (whole left left' : List (List ℕ)) (values given : List Value) (word : List ℕ) → AreReadSoFar whole left values → left ≡ word ∷ left'
    → 32 ≤ length values → AllZip SpellsValue whole given → length given ≤ 32 → ⊥
too_many whole left left' values given word so_far is full each few =
    omega (
      arith,
      zip_length whole given each,
      ap length so_far.whole_is,
      length-append so_far.texts left,
      ap length is,
      zip_length so_far.texts values so_far.each,
    )

zip_middle : (texts rest : List (List ℕ)) (word : List ℕ) (given : List Value) → AllZip SpellsValue (texts ++ word ∷ rest) given → (value : Value) × SpellsValue word value
zip_middle [] rest word [] z = absurd z
zip_middle [] rest word (v ∷ vs) z = (v, z.0)
zip_middle (t ∷ ts) rest word [] z = absurd z
zip_middle (t ∷ ts) rest word (v ∷ vs) z = zip_middle ts rest word vs z.1

-- a word that gives no value
pub no_value : (whole left left' : List (List ℕ)) (values given : List Value) (word : List ℕ) → AreReadSoFar whole left values → left ≡ word ∷ left'
    → ((value : Value) → ¬ (SpellsValue word value)) → AllZip SpellsValue whole given → ⊥
no_value whole left left' values given word so_far is none each =
    let whole_is : whole ≡ so_far.texts ++ word ∷ left' = so_far.whole_is ∙ ap (λ l. so_far.texts ++ l) is in
    let found = zip_middle so_far.texts left' word given (subst (λ w. AllZip SpellsValue w given) whole_is each) in
    none found.0 found.1

pub all_values : (whole left : List (List ℕ)) (values : List Value) → AreReadSoFar whole left values → left ≡ [] → AllZip SpellsValue whole values
all_values whole left values so_far ended =
    let texts_are : so_far.texts ≡ whole = sym (so_far.whole_is ∙ ap (λ l. so_far.texts ++ l) ended ∙ append-nil so_far.texts) in
    subst (λ w. AllZip SpellsValue w values) texts_are so_far.each

pub empty_row : (whole left : List (List ℕ)) (values given : List Value) → AreReadSoFar whole left values → left ≡ [] → length values ≡ 0
    → AllZip SpellsValue whole given → 1 ≤ length given → ⊥
empty_row whole left values given so_far ended none each some =
    omega (arith, zip_length whole given each, zip_length whole values (all_values whole left values so_far ended))

-- one word gives one value
pub one_value_each : (word : List ℕ) (a b : Value) → SpellsValue word a → SpellsValue word b → a ≡ b
one_value_each word Null Null p q = refl
one_value_each word Null (Int z) p q = absurd (let e : codes "null" ≡ codes "i:" ++ q.number = sym p ∙ q.spelled in let first : 110 ≡ 105 = ap (λ l. slice_index l 0) e in omega arith)
one_value_each word Null (Text t) p q = absurd (let e : codes "null" ≡ codes "t:" ++ q.escaped = sym p ∙ q.spelled in let first : 110 ≡ 116 = ap (λ l. slice_index l 0) e in omega arith)
one_value_each word Null (Blob t) p q = absurd (let e : codes "null" ≡ codes "b:" ++ q.digits = sym p ∙ q.spelled in let first : 110 ≡ 98 = ap (λ l. slice_index l 0) e in omega arith)
one_value_each word Null (Real r) p q = absurd q
one_value_each word (Int z) Null p q = absurd (let e : codes "null" ≡ codes "i:" ++ p.number = sym q ∙ p.spelled in let first : 110 ≡ 105 = ap (λ l. slice_index l 0) e in omega arith)
one_value_each word (Int z) (Int y) p q =
    let e : codes "i:" ++ p.number ≡ codes "i:" ++ q.number = sym p.spelled ∙ q.spelled in
    let number_is : p.number ≡ q.number = cc in
    ap Int (signed_decimal_injective z y p.is_number.fits.sfits q.is_number.fits.sfits (sym p.is_number.spelled ∙ number_is ∙ q.is_number.spelled))
one_value_each word (Int z) (Text t) p q = absurd (let e : codes "i:" ++ p.number ≡ codes "t:" ++ q.escaped = sym p.spelled ∙ q.spelled in let first : 105 ≡ 116 = ap (λ l. slice_index l 0) e in omega arith)
one_value_each word (Int z) (Blob t) p q = absurd (let e : codes "i:" ++ p.number ≡ codes "b:" ++ q.digits = sym p.spelled ∙ q.spelled in let first : 105 ≡ 98 = ap (λ l. slice_index l 0) e in omega arith)
one_value_each word (Int z) (Real r) p q = absurd q
one_value_each word (Text t) Null p q = absurd (let e : codes "null" ≡ codes "t:" ++ p.escaped = sym q ∙ p.spelled in let first : 110 ≡ 116 = ap (λ l. slice_index l 0) e in omega arith)
one_value_each word (Text t) (Int z) p q = absurd (let e : codes "t:" ++ p.escaped ≡ codes "i:" ++ q.number = sym p.spelled ∙ q.spelled in let first : 116 ≡ 105 = ap (λ l. slice_index l 0) e in omega arith)
one_value_each word (Text t) (Text u) p q =
    let e : codes "t:" ++ p.escaped ≡ codes "t:" ++ q.escaped = sym p.spelled ∙ q.spelled in
    let escaped_is : p.escaped ≡ q.escaped = cc in
    ap Text (p.decoded ∙ ap percent_decode escaped_is ∙ sym q.decoded)
one_value_each word (Text t) (Blob u) p q = absurd (let e : codes "t:" ++ p.escaped ≡ codes "b:" ++ q.digits = sym p.spelled ∙ q.spelled in let first : 116 ≡ 98 = ap (λ l. slice_index l 0) e in omega arith)
one_value_each word (Text t) (Real r) p q = absurd q
one_value_each word (Blob t) Null p q = absurd (let e : codes "null" ≡ codes "b:" ++ p.digits = sym q ∙ p.spelled in let first : 110 ≡ 98 = ap (λ l. slice_index l 0) e in omega arith)
one_value_each word (Blob t) (Int z) p q = absurd (let e : codes "b:" ++ p.digits ≡ codes "i:" ++ q.number = sym p.spelled ∙ q.spelled in let first : 98 ≡ 105 = ap (λ l. slice_index l 0) e in omega arith)
one_value_each word (Blob t) (Text u) p q = absurd (let e : codes "b:" ++ p.digits ≡ codes "t:" ++ q.escaped = sym p.spelled ∙ q.spelled in let first : 98 ≡ 116 = ap (λ l. slice_index l 0) e in omega arith)
one_value_each word (Blob t) (Blob u) p q =
    let e : codes "b:" ++ p.digits ≡ codes "b:" ++ q.digits = sym p.spelled ∙ q.spelled in
    let digits_are : p.digits ≡ q.digits = cc in
    ap Blob (decode_of-same q.digits t u (sym (ap decode_of digits_are) ∙ p.decoded) q.decoded)
one_value_each word (Blob t) (Real r) p q = absurd q
one_value_each word (Real r) b p q = absurd p

pub one_row_each : (texts : List (List ℕ)) (a b : List Value) → AllZip SpellsValue texts a → AllZip SpellsValue texts b → a ≡ b
one_row_each [] [] [] p q = refl
one_row_each [] [] (w ∷ ws) p q = absurd q
one_row_each [] (v ∷ vs) b p q = absurd p
one_row_each (t ∷ ts) [] b p q = absurd p
one_row_each (t ∷ ts) (v ∷ vs) [] p q = absurd q
one_row_each (t ∷ ts) (v ∷ vs) (w ∷ ws) p q =
    ap (λ x. x ∷ vs) (one_value_each t v w p.0 q.0) ∙ ap (λ xs. w ∷ xs) (one_row_each ts vs ws p.1 q.1)
