-- Words are cut into pieces in one way.
use Rattle.std.proofs.Common.{◌≡◌, ◌≢◌, ◌⊎◌, inl, inr, ℕ, ◌==◌, true, false, List, [], ◌∷◌, ◌++◌, append_assoc, map, get_or, codes, refl, sym, ap, subst, ◌∙◌, arith, if◌then◌else◌}
use Rattle.std.specs.List.{flat_map, AllZip}
use Rattle.std.proofs.lemmas.List.{append-nil}
use Rattle.shell_words.specs.Plan.{Setting, setting_word, Piece, sets, stands, is_dashed, SpellsPiece, AreBehind, SpellPieces}
use Rattle.shell_words.specs.Plan as plan
use Rattle.shell_words.proofs.TextLemmas.{no_first, same_first, same_back}

-- ---- the options differ in their third byte

third : List ℕ → ℕ
third word = get_or word 2 0

letter : Setting → ℕ
letter plan.Page = 112
letter plan.Host = 104
letter plan.Attach = 97
letter plan.Load = 108
letter plan.Key = 107

setting_at : ℕ → Setting
setting_at n = if n == 112 then plan.Page else (if n == 104 then plan.Host else (if n == 97 then plan.Attach else (if n == 108 then plan.Load else plan.Key)))

setting_back : (s : Setting) → setting_at (letter s) ≡ s
unfolding letter setting_at
setting_back plan.Page = refl
setting_back plan.Host = refl
setting_back plan.Attach = refl
setting_back plan.Load = refl
setting_back plan.Key = refl

third_is : (s : Setting) (tail : List ℕ) → third (setting_word s ++ tail) ≡ letter s
unfolding letter third
third_is plan.Page tail = refl
third_is plan.Host tail = refl
third_is plan.Attach tail = refl
third_is plan.Load tail = refl
third_is plan.Key tail = refl

one_option : (s t : Setting) (x y : List ℕ) → setting_word s ++ x ≡ setting_word t ++ y → (s ≡ t) × (x ≡ y)
one_option s t x y e =
    let same : s ≡ t = sym (setting_back s) ∙ ap setting_at (sym (third_is s x) ∙ ap third e ∙ third_is t y) ∙ setting_back t in
    (same, same_back (setting_word s) x y (subst (λ (r : Setting). setting_word s ++ x ≡ setting_word r ++ y) (sym same) e))

option_dashed : (s : Setting) (tail : List ℕ) → is_dashed (setting_word s ++ tail) ≡ true
option_dashed plan.Page tail = refl
option_dashed plan.Host tail = refl
option_dashed plan.Attach tail = refl
option_dashed plan.Load tail = refl
option_dashed plan.Key tail = refl

some_letter : (s : Setting) → 0 ≢ letter s
unfolding letter
some_letter plan.Page e = omega (arith, e)
some_letter plan.Host e = omega (arith, e)
some_letter plan.Attach e = omega (arith, e)
some_letter plan.Load e = omega (arith, e)
some_letter plan.Key e = omega (arith, e)

not_dashes : (s : Setting) (tail : List ℕ) → codes "--" ≢ setting_word s ++ tail
unfolding third
not_dashes s tail e = some_letter s (ap third e ∙ third_is s tail)

-- ---- the words of one piece

-- an option's first word, and the words behind it: its value is one of these, or stands in the first word
record Opens (s : Setting) (value : List ℕ) (words more : List (List ℕ)) : Type 0 where
  tail : List ℕ
  others : List (List ℕ)
  are : words ≡ (setting_word s ++ tail) ∷ others
  which : ((tail ≡ []) × (others ≡ value ∷ more)) ⊎ ((tail ≡ 61 ∷ value) × (others ≡ more))

opens : (s : Setting) (value : List ℕ) (part more : List (List ℕ)) → SpellsPiece (sets s value) part → Opens s value (part ++ more) more
opens s value part more (inl two) = record {
  tail = [];
  others = value ∷ more;
  are = ap (λ (p : List (List ℕ)). p ++ more) two.0 ∙ ap (λ (w : List ℕ). w ∷ value ∷ more) (sym (append-nil (setting_word s)));
  which = inl (refl, refl);
}
opens s value part more (inr one) = record {
  tail = 61 ∷ value;
  others = more;
  are = ap (λ (p : List (List ℕ)). p ++ more) one;
  which = inr (refl, refl);
}

same_setting : (s t : Setting) (value other : List ℕ) (words behind more rest : List (List ℕ)) → Opens s value words more → Opens t other behind rest → words ≡ behind
    → (sets s value ≡ sets t other) × (more ≡ rest)
same_setting s t value other words behind more rest first second e =
    by first.which second.which
  where
    both : (setting_word s ++ first.tail ≡ setting_word t ++ second.tail) × (first.others ≡ second.others)
    both = same_first _ _ _ _ (sym first.are ∙ e ∙ second.are)

    option : (s ≡ t) × (first.tail ≡ second.tail)
    option = one_option s t first.tail second.tail both.0

    by : ((first.tail ≡ []) × (first.others ≡ value ∷ more)) ⊎ ((first.tail ≡ 61 ∷ value) × (first.others ≡ more))
        → ((second.tail ≡ []) × (second.others ≡ other ∷ rest)) ⊎ ((second.tail ≡ 61 ∷ other) × (second.others ≡ rest)) → (sets s value ≡ sets t other) × (more ≡ rest)
    by (inl p) (inl q) =
        let words = same_first value other more rest (sym p.1 ∙ both.1 ∙ q.1) in
        (λ i. sets (option.0 i) (words.0 i), words.1)
    by (inl p) (inr q) = absurd (no_first 61 other (sym q.0 ∙ sym option.1 ∙ p.0))
    by (inr p) (inl q) = absurd (no_first 61 value (sym p.0 ∙ option.1 ∙ q.0))
    by (inr p) (inr q) = (λ i. sets (option.0 i) ((same_first 61 61 value other (sym p.0 ∙ option.1 ∙ q.0)).1 i), sym p.1 ∙ both.1 ∙ q.1)

-- a word that stands by itself is not an option
no_option : (word : List ℕ) (s : Setting) (value : List ℕ) (part other more rest : List (List ℕ)) → SpellsPiece (stands word) part → SpellsPiece (sets s value) other
    → part ++ more ≢ other ++ rest
no_option word s value part other more rest stand set e =
    let first = opens s value other rest set in
    let both = same_first word (setting_word s ++ first.tail) more first.others (sym (ap (λ (p : List (List ℕ)). p ++ more) stand.0) ∙ e ∙ first.are) in
    let wrong : false ≡ true = sym stand.1 ∙ ap is_dashed both.0 ∙ option_dashed s first.tail in
    cc

same_piece : (piece another : Piece) (part other more rest : List (List ℕ)) → SpellsPiece piece part → SpellsPiece another other → part ++ more ≡ other ++ rest → (piece ≡ another) × (more ≡ rest)
same_piece (stands word) (stands other) part its more rest p q e =
    let both = same_first word other more rest (sym (ap (λ (l : List (List ℕ)). l ++ more) p.0) ∙ e ∙ ap (λ (l : List (List ℕ)). l ++ rest) q.0) in
    (ap stands both.0, both.1)
same_piece (stands word) (sets s value) part other more rest p q e = absurd (no_option word s value part other more rest p q e)
same_piece (sets s value) (stands word) part other more rest p q e = absurd (no_option word s value other part rest more q p (sym e))
same_piece (sets s value) (sets t other) part its more rest p q e =
    same_setting s t value other (part ++ more) (its ++ rest) more rest (opens s value part more p) (opens t other its rest q) e

-- a piece has a word at least, and its first word is not `--`
pub some_word : (piece : Piece) (part more : List (List ℕ)) → SpellsPiece piece part → part ++ more ≢ []
some_word (stands word) part more is none = no_first word more (subst (λ (p : List (List ℕ)). p ++ more ≡ []) is.0 none)
some_word (sets setting value) part more is none =
    let first = opens setting value part more is in
    no_first (setting_word setting ++ first.tail) first.others (sym first.are ∙ none)

no_end : (piece : Piece) (part more behind : List (List ℕ)) → SpellsPiece piece part → part ++ more ≢ codes "--" ∷ behind
no_end (stands word) part more behind is e =
    let both = same_first word (codes "--") more behind (sym (ap (λ (p : List (List ℕ)). p ++ more) is.0) ∙ e) in
    let wrong : false ≡ true = sym is.1 ∙ ap is_dashed both.0 in
    cc
no_end (sets setting value) part more behind is e =
    let first = opens setting value part more is in
    not_dashes setting first.tail ((same_first (codes "--") (setting_word setting ++ first.tail) behind first.others (sym e ∙ first.are)).0)

-- ---- all the words

behind_all : (rest behind : List (List ℕ)) (piece : Piece) (part more : List (List ℕ)) → AreBehind rest behind → SpellsPiece piece part → rest ≢ part ++ more
behind_all rest [] piece part more (inl none) is e = some_word piece part more is (sym e ∙ none)
behind_all rest [] piece part more (inr ends) is e = no_end piece part more [] is (sym e ∙ ends)
behind_all rest (word ∷ behind) piece part more ends is e = no_end piece part more (word ∷ behind) is (sym e ∙ ends)

-- `--` alone, or nothing, has no word behind it
none_more : (rest : List (List ℕ)) (word : List ℕ) (more : List (List ℕ)) → AreBehind rest [] → rest ≢ codes "--" ∷ word ∷ more
none_more rest word more (inl none) e = no_first (codes "--") (word ∷ more) (sym e ∙ none)
none_more rest word more (inr ends) e = no_first word more ((same_first (codes "--") (codes "--") (word ∷ more) [] (sym e ∙ ends)).1)

same_behind : (rest other behind after : List (List ℕ)) → AreBehind rest behind → AreBehind other after → rest ≡ other → behind ≡ after
same_behind rest other [] [] p q e = refl
same_behind rest other [] (word ∷ after) p q e = absurd (none_more rest word after p (e ∙ q))
same_behind rest other (word ∷ behind) [] p q e = absurd (none_more other word behind q (sym e ∙ p))
same_behind rest other (word ∷ behind) (its ∷ after) p q e = (same_first (codes "--") (codes "--") (word ∷ behind) (its ∷ after) (sym p ∙ e ∙ q)).1

same_pieces : (front other : List Piece) (parts its : List (List (List ℕ))) (rest end behind after : List (List ℕ)) → AllZip SpellsPiece front parts → AllZip SpellsPiece other its
    → AreBehind rest behind → AreBehind end after → flat_map (λ part. part) parts ++ rest ≡ flat_map (λ part. part) its ++ end → front ++ map stands behind ≡ other ++ map stands after
same_pieces [] [] [] [] rest end behind after each all p q e = ap (map stands) (same_behind rest end behind after p q e)
same_pieces [] (piece ∷ other) [] (part ∷ its) rest end behind after each all p q e =
    absurd (behind_all rest behind piece part (flat_map (λ part. part) its ++ end) p all.0 (e ∙ append_assoc part (flat_map (λ part. part) its) end))
same_pieces (piece ∷ front) [] (part ∷ parts) [] rest end behind after each all p q e =
    absurd (behind_all end after piece part (flat_map (λ part. part) parts ++ rest) q each.0 (sym e ∙ append_assoc part (flat_map (λ part. part) parts) rest))
same_pieces (piece ∷ front) (another ∷ other) (part ∷ parts) (its ∷ more) rest end behind after each all p q e =
    let first = same_piece piece another part its (flat_map (λ part. part) parts ++ rest) (flat_map (λ part. part) more ++ end) each.0 all.0
    (sym (append_assoc part (flat_map (λ part. part) parts) rest) ∙ e ∙ append_assoc its (flat_map (λ part. part) more) end) in
    let others = same_pieces front other parts more rest end behind after each.1 all.1 p q first.1 in
    λ i. first.0 i ∷ others i
same_pieces [] other (part ∷ parts) its rest end behind after each all p q e = absurd each
same_pieces (piece ∷ front) other [] its rest end behind after each all p q e = absurd each
same_pieces [] [] [] (part ∷ its) rest end behind after each all p q e = absurd all
same_pieces [] (piece ∷ other) [] [] rest end behind after each all p q e = absurd all
same_pieces (piece ∷ front) [] (part ∷ parts) (other ∷ its) rest end behind after each all p q e = absurd all
same_pieces (piece ∷ front) (another ∷ other) (part ∷ parts) [] rest end behind after each all p q e = absurd all

pub one_cut : (words : List (List ℕ)) (one other : List Piece) → SpellPieces words one → SpellPieces words other → one ≡ other
one_cut words one other p q =
    p.pieces_are ∙ same_pieces p.front q.front p.parts q.parts p.rest q.rest p.behind q.behind p.each q.each p.ends q.ends (sym p.words_are ∙ q.words_are) ∙ sym q.pieces_are
