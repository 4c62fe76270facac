use Rattle.std.proofs.Common.{◌≡◌, ℕ, ◌+◌, ◌-◌, ◌≤◌, ◌<◌, nat_eq, Bool, false, cond, List, [], ◌∷◌, ◌++◌, length, get_or, take, drop, reverse, refl, sym, ap, ◌∙◌, arith, length-append, length-drop, append_assoc}
use Rattle.std.proofs.lemmas.Bool.{eqb-true, ne_eqb, eq-eqb}
use Rattle.std.proofs.lemmas.List.{same_lists, take-append-drop, take_at, drop_at, get_or-take, get_or-drop, get_or-replicate, length-replicate, get_or-reverse, get_or_append_left, get_or-append_right}
use Rattle.std.proofs.lemmas.List.Sums.{prefix_len_passes, suffix_len-le-length, suffix_len_is}
use Rattle.std.proofs.lemmas.List.Folds.{length-prefix_len, prefix_len-append, prefix_len-replicate}
use Rattle.std.specs.List.{prefix_len, suffix_len}
use Rattle.db_format.specs.CreateSteps.{after_blanks, before_blanks}
use Rattle.db_format.specs.Create.{blanks, is_identifier_byte, IsIdentifier, IsPadded}

abbrev pub is_blank : ℕ → Bool
is_blank b = nat_eq b 32

-- a text is the blanks at its front and what is behind them
front_blanks : (text : List ℕ) → take (prefix_len is_blank text) text ≡ blanks (prefix_len is_blank text)
front_blanks text =
    let count : ℕ = prefix_len is_blank text in
    let size : length (take count text) ≡ count = length-prefix_len is_blank text in
    same_lists (take count text) (blanks count) (size ∙ sym (length-replicate count 32))
    (λ k d within.
    let low : k < count = omega arith in
    get_or-take count text k d low ∙ eqb-true (get_or text k d) 32 (prefix_len_passes is_blank text k d low) ∙ sym (get_or-replicate count k 32 d low))

pub after_is : (text : List ℕ) → text ≡ blanks (prefix_len is_blank text) ++ after_blanks text
after_is text =
    sym (take-append-drop (prefix_len is_blank text) text) ∙ ap (λ front. front ++ after_blanks text) (front_blanks text)

-- and it is what is before the blanks at its end, and those
suffix_passes : (text : List ℕ) (k d : ℕ) → length text - suffix_len is_blank text ≤ k → k < length text → get_or text k d ≡ 32
suffix_passes text k d low within =
    let total : suffix_len is_blank text ≤ length text = suffix_len-le-length is_blank text in
    let j : ℕ = length text - 1 - k in
    let back : get_or (reverse text) j d ≡ get_or text k d = get_or-reverse text j d (omega arith) ∙ ap (λ i. get_or text i d) (omega arith) in
    sym back ∙ eqb-true _ 32 (prefix_len_passes is_blank (reverse text) j d (omega arith))

pub before_is : (text : List ℕ) → text ≡ before_blanks text ++ blanks (suffix_len is_blank text)
before_is text =
    let count : ℕ = suffix_len is_blank text in
    let total : count ≤ length text = suffix_len-le-length is_blank text in
    let from : ℕ = length text - count in
    let size : length (drop from text) ≡ count = omega (arith, length-drop from text) in
    let rest : drop from text ≡ blanks count =
    same_lists (drop from text) (blanks count) (size ∙ sym (length-replicate count 32))
    (λ k d within. get_or-drop from text k d ∙ suffix_passes text (from + k) d (omega arith) (omega arith) ∙ sym (get_or-replicate count k 32 d (omega arith))) in
    sym (take-append-drop from text) ∙ ap (λ back. take from text ++ back) rest

-- no blank stands at either end of a text whose ends are other bytes
pub before_bare : (text : List ℕ) (count : ℕ) → 0 < length text → nat_eq (get_or text (length text - 1) 0) 32 ≡ false → before_blanks (text ++ blanks count) ≡ text
before_bare text count some bare =
    let all : length (text ++ blanks count) ≡ length text + count = omega (arith, length-append text (blanks count), length-replicate {A = ℕ} count 32) in
    let ends : suffix_len is_blank (text ++ blanks count) ≡ length (text ++ blanks count) - length text =
    suffix_len_is is_blank (text ++ blanks count) (length text) 0 (omega arith)
    (λ k low high. eq-eqb _ 32 (get_or-append_right text (blanks count) (length text) k 0 refl low ∙ get_or-replicate count (k - length text) 32 0 (omega arith)))
    (λ _. ap is_blank (get_or_append_left text (blanks count) 0 (length text - 1) (omega arith)) ∙ bare) in
    ap (λ n. take n (text ++ blanks count)) (omega arith) ∙ take_at text (blanks count) (length text) refl

pub after_bare : (text : List ℕ) (count : ℕ) → 0 < length text → nat_eq (get_or text 0 0) 32 ≡ false → after_blanks (blanks count ++ text) ≡ text
after_bare [] count some bare = absurd (omega arith)
after_bare (b ∷ bs) count some bare =
    let front : prefix_len is_blank (blanks count) ≡ count = prefix_len-replicate is_blank count 32 refl in
    let none : prefix_len is_blank (b ∷ bs) ≡ 0 = ap (λ t. cond t (1 + prefix_len is_blank bs) 0) bare in
    let size : length (blanks count) ≡ count = length-replicate count 32 in
    let all : prefix_len is_blank (blanks count ++ b ∷ bs) ≡ count =
    prefix_len-append is_blank (blanks count) (b ∷ bs)
    ∙ ap (λ t. cond t (length (blanks count) + prefix_len is_blank (b ∷ bs)) (prefix_len is_blank (blanks count))) (eq-eqb _ _ (front ∙ sym size))
    ∙ omega arith in
    ap (λ n. drop n (blanks count ++ b ∷ bs)) all ∙ drop_at (blanks count) (b ∷ bs) count size

-- no byte of a name is another than names have
pub other_byte : (name : List ℕ) (b : ℕ) → IsIdentifier name → is_identifier_byte b ≡ false → (k d : ℕ) → k < length name → nat_eq (get_or name k d) b ≡ false
other_byte name b is other k d within = ne_eqb (get_or name k d) b (λ same. let yes = is.each k d within in let e = ap is_identifier_byte same in cc)

-- a text is padded by its blanks
abbrev pub unpadded : List ℕ → List ℕ
unpadded piece = after_blanks (before_blanks piece)

pub padded_is : (piece : List ℕ) → IsPadded piece (unpadded piece)
padded_is piece = record {
  before = prefix_len is_blank (before_blanks piece);
  after = suffix_len is_blank piece;
  whole = before_is piece
      ∙ ap (λ t. t ++ blanks (suffix_len is_blank piece)) (after_is (before_blanks piece))
      ∙ append_assoc (blanks (prefix_len is_blank (before_blanks piece))) (unpadded piece) (blanks (suffix_len is_blank piece));
}

-- and what is padded is found again, where it is a name
pub padded_only : (piece name : List ℕ) → IsIdentifier name → IsPadded piece name → unpadded piece ≡ name
padded_only piece name is padded =
    let some : 0 < length name = is.some in
    let front = blanks padded.before in
    let whole : piece ≡ (front ++ name) ++ blanks padded.after = padded.whole ∙ sym (append_assoc front name (blanks padded.after)) in
    let size : length (front ++ name) ≡ length front + length name = length-append front name in
    let last : nat_eq (get_or (front ++ name) (length (front ++ name) - 1) 0) 32 ≡ false =
    ap is_blank (get_or-append_right front name (length front) (length (front ++ name) - 1) 0 refl (omega arith))
    ∙ other_byte name 32 is refl (length (front ++ name) - 1 - length front) 0 (omega arith) in
    ap after_blanks (ap before_blanks whole ∙ before_bare (front ++ name) padded.after (omega arith) last)
    ∙ after_bare name padded.before some (other_byte name 32 is refl 0 0 some)
