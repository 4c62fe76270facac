-- Names with decimal digits behind them, as chunks have them.
use Rattle.std.proofs.Common.{◌≡◌, ◌≢◌, ◌⊎◌, inl, inr, ℕ, zero, suc, ◌+◌, ◌-◌, ◌≤◌, ◌<◌, ◌^◌, Bool, true, false, cond, ◌&&◌, nat_eq, IsTrue, take, codes, List, [], ◌∷◌, ◌++◌, length, replicate, decimal, refl, sym, ap, ◌∙◌, subst, append_assoc, if◌then◌else◌, arith, get_or}
use Rattle.std.proofs.Common.{rules}
use Rattle.std.specs.Char.{is_ascii_digit}
use Rattle.std.specs.List.{list_all, ends_with, prefix_len, suffix_len}
use Rattle.std.proofs.lemmas.Bool.{ne_eqb}
use Rattle.std.proofs.lemmas.List.Folds.{list_all-append}
use Rattle.std.proofs.lemmas.Fmt.{decimal_is_IsNumeral}
use Rattle.std.proofs.lemmas.Str.Parse.{digit_at}
use Rattle.std.proofs.lemmas.List.{append-nil, length-append, reverse-append, take-append-le}
use Rattle.vfs_model.specs.Store.{IsNumbered, Separate}
use Rattle.vfs_model.specs.Name.{stem, has_part, kind_of}
use Rattle.vfs_model.specs.View.{chunk_digits, chunk_name, most_chunks, IsChunkOf, ViewedFrom}
use Rattle.vfs_model.specs.declared.name.Kind.TheVariants.{Main, Journal, Super}
use Rattle.vfs_model.specs.declared.layer.Layer.{Layer}
use Rattle.vfs_model.specs.declared.layer.Layer.TheVariants.{Trace, Cksum, Append, Mux, Quota}

-- separate names are two
pub two : (name other : List ℕ) → Separate name other → name ≢ other
two name other h same = let none : IsTrue (list_all is_ascii_digit []) = search rules in h.below ([], none, sym same ∙ sym (append-nil name))

-- a text of decimal digits alone
abbrev pub AreDigits : List ℕ → Type 0
AreDigits text = list_all is_ascii_digit text ≡ true

digits_by_place : (text : List ℕ) → ((i : ℕ) → i < length text → is_ascii_digit (get_or text i 0) ≡ true) → AreDigits text
digits_by_place [] each = refl
digits_by_place (b ∷ more) each =
    ap (λ here. here && list_all is_ascii_digit more) (each 0 (omega arith))
    ∙ digits_by_place more (λ i within. each (suc i) (omega (arith, within)))

decimal_digits : (n : ℕ) → n < 2 ^ 64 → AreDigits (decimal n)
decimal_digits n fits = digits_by_place (decimal n) (λ i within. let range = digit_at (decimal n) i (decimal_is_IsNumeral n fits).0.1 within in grind (arith, range))

zeros_digits : (n : ℕ) → AreDigits (replicate n 48)
zeros_digits zero = refl
zeros_digits (suc n) = zeros_digits n

both_digits : (a b : List ℕ) → AreDigits a → AreDigits b → AreDigits (a ++ b)
both_digits a b h k = list_all-append is_ascii_digit a b ∙ ap (λ x. x && list_all is_ascii_digit b) h ∙ k

pub left_true : (x y : Bool) → (x && y) ≡ true → x ≡ true
left_true true y h = refl
left_true false y h = h

pub right_true : (x y : Bool) → (x && y) ≡ true → y ≡ true
right_true true y h = h
right_true false y h = grind arith

first_digits : (a b : List ℕ) → AreDigits (a ++ b) → AreDigits a
first_digits a b h = left_true (list_all is_ascii_digit a) (list_all is_ascii_digit b) (sym (list_all-append is_ascii_digit a b) ∙ h)

abbrev rest_of : List ℕ → List ℕ
rest_of [] = []
rest_of (b ∷ more) = more

abbrev first_of : List ℕ → ℕ
first_of [] = 0
first_of (b ∷ more) = b

longer : (x y : ℕ) (a b : List ℕ) → x ≡ y → IsNumbered a b → IsNumbered (x ∷ a) (y ∷ b)
longer x y a b same h = (h.0, h.1, ap (λ z. z ∷ b) (sym same) ∙ ap (λ zs. x ∷ zs) h.2)

-- of two texts that are one with digits behind them, one is the other with digits behind it
pub numbered : (a b d e : List ℕ) → AreDigits d → AreDigits e → a ++ d ≡ b ++ e → IsNumbered a b ⊎ IsNumbered b a
numbered [] b d e of_d of_e same =
    let digits : AreDigits b = first_digits b e (ap (list_all is_ascii_digit) (sym same) ∙ of_d) in
    inl (b, search rules, refl)
numbered (x ∷ a) [] d e of_d of_e same =
    let digits : AreDigits (x ∷ a) = first_digits (x ∷ a) d (ap (list_all is_ascii_digit) same ∙ of_e) in
    inr (x ∷ a, search rules, refl)
numbered (x ∷ a) (y ∷ b) d e of_d of_e same = either (numbered a b d e of_d of_e (ap rest_of same)) where
  either : IsNumbered a b ⊎ IsNumbered b a → IsNumbered (x ∷ a) (y ∷ b) ⊎ IsNumbered (y ∷ b) (x ∷ a)
  either (inl h) = inl (longer x y a b (ap first_of same) h)
  either (inr h) = inr (longer y x b a (sym (ap first_of same)) h)

-- what stands behind a name in that of its chunk
record Behind (name seen : List ℕ) : Type 0 where
  pub digits : List ℕ
  pub are : AreDigits digits
  pub seen_is : seen ≡ name ++ digits

few_digits : (n : ℕ) → n < most_chunks → n < 2 ^ 64
unfolding most_chunks
few_digits n few = omega (arith, few)

of_number : (name : List ℕ) (n : ℕ) → n < most_chunks → Behind name (chunk_name name n)
of_number name zero few = record { digits = []; are = refl; seen_is = sym (append-nil name) }
of_number name (suc n) few = record {
  digits = chunk_digits (suc n);
  are = both_digits (replicate (3 - length (decimal (suc n))) 48) (decimal (suc n)) (zeros_digits (3 - length (decimal (suc n)))) (decimal_digits (suc n) (few_digits (suc n) few));
  seen_is = ap (λ first. if first then name else (name ++ chunk_digits (suc n))) (ne_eqb (suc n) 0 (λ e. omega (arith, e)));
}

of_chunk : (name seen : List ℕ) → IsChunkOf name seen → Behind name seen
of_chunk name seen h = subst (Behind name) (sym h.named) (of_number name h.number h.few)

-- digits behind a text are behind its stem
suffix_one : (name : List ℕ) (b : ℕ) → is_ascii_digit b ≡ true → suffix_len is_ascii_digit (name ++ b ∷ []) ≡ 1 + suffix_len is_ascii_digit name
suffix_one name b h = ap (prefix_len is_ascii_digit) (reverse-append name (b ∷ [])) ∙ ap (λ yes. cond yes (1 + suffix_len is_ascii_digit name) 0) h

suffix_digits : (digits name : List ℕ) → AreDigits digits → suffix_len is_ascii_digit (name ++ digits) ≡ length digits + suffix_len is_ascii_digit name
suffix_digits [] name h = ap (suffix_len is_ascii_digit) (append-nil name) ∙ omega arith
suffix_digits (b ∷ more) name h =
    let one = suffix_one name b (left_true (is_ascii_digit b) (list_all is_ascii_digit more) h) in
    let rest = suffix_digits more (name ++ b ∷ []) (right_true (is_ascii_digit b) (list_all is_ascii_digit more) h) in
    ap (suffix_len is_ascii_digit) (sym (append_assoc name (b ∷ []) more)) ∙ omega (arith, one, rest)

stem_stays : (name digits : List ℕ) → AreDigits digits → stem (name ++ digits) ≡ stem name
stem_stays name digits h =
    let behind = suffix_digits digits name h in
    let few : length (name ++ digits) - suffix_len is_ascii_digit (name ++ digits) ≡ length name - suffix_len is_ascii_digit name = omega (arith, behind, length-append name digits) in
    let within : length name - suffix_len is_ascii_digit name ≤ length name = omega arith in
    ap (λ n. take n (name ++ digits)) few ∙ take-append-le (length name - suffix_len is_ascii_digit name) name digits within

-- a name with digits behind it has the kind of the name
kind_stays : (name digits : List ℕ) → AreDigits digits → kind_of (name ++ digits) ≡ kind_of name
kind_stays name digits h = ap (λ s. if ends_with nat_eq s (codes "-journal") then Journal else (if has_part s (codes "-with-") then Super else Main)) (stem_stays name digits h)

chunk_kind : (name seen : List ℕ) → Behind name seen → kind_of seen ≡ kind_of name
chunk_kind name seen h = ap kind_of h.seen_is ∙ kind_stays name h.digits h.are

-- a layer's view of a name makes use of files of its kind alone
pub viewed_kind : (layer : Layer) (name seen : List ℕ) → ViewedFrom layer name seen → kind_of seen ≡ kind_of name
viewed_kind Trace name seen viewed = ap kind_of viewed
viewed_kind (Cksum page) name seen viewed = ap kind_of viewed
viewed_kind Append name seen viewed = ap kind_of viewed
viewed_kind (Mux chunk) name seen viewed = chunk_kind name seen (of_chunk name seen viewed)
viewed_kind (Quota groups) name seen viewed = ap kind_of viewed

no_chunk_of_both : (name other seen : List ℕ) → Separate name other → IsChunkOf name seen → IsChunkOf other seen → ⊥
no_chunk_of_both name other seen h one next = neither (numbered name other (of_chunk name seen one).digits (of_chunk other seen next).digits
    (of_chunk name seen one).are (of_chunk other seen next).are (sym (of_chunk name seen one).seen_is ∙ (of_chunk other seen next).seen_is)) where
      neither : IsNumbered name other ⊎ IsNumbered other name → ⊥
      neither (inl k) = h.below k
      neither (inr k) = h.above k

pub viewed_apart : (layer : Layer) (name other seen : List ℕ) → Separate name other → ViewedFrom layer name seen → ViewedFrom layer other seen → ⊥
viewed_apart Trace name other seen h one next = two name other h (sym one ∙ next)
viewed_apart (Cksum page) name other seen h one next = two name other h (sym one ∙ next)
viewed_apart Append name other seen h one next = two name other h (sym one ∙ next)
viewed_apart (Mux chunk) name other seen h one next = no_chunk_of_both name other seen h one next
viewed_apart (Quota groups) name other seen h one next = two name other h (sym one ∙ next)
