-- The words of the command line name one plan at most, and one word a database.
use Rattle.std.proofs.Common.{◌≡◌, ◌≢◌, ◌⊎◌, inl, inr, ℕ, zero, suc, ◌-◌, ◌^◌, ◌<◌, ◌==◌, Bool, true, false, List, [], ◌∷◌, ◌++◌, append_assoc, length, map, codes, Option, Some, None, refl, sym, ap, subst, ◌∙◌, arith, IsTrue}
use Rattle.std.specs.List.{flat_map, list_all, AllZip, AllPairs}
use Rattle.std.specs.Char.{is_ascii_digit}
use Rattle.std.proofs.lemmas.Bool.Decides.{Decides-eqb}
use Rattle.std.proofs.lemmas.List.{length-append}
use Rattle.vfs_model.specs.Store.{Separate}
use Rattle.shell_words.specs.Plan.{Plan, Words, Setting, setting_word, Piece, sets, stands, is_dashed, SpellsPiece, AreBehind, SpellPieces, values_of, standing, CountOf, SomeCount, SomeWord, IsDatabaseName, journal_name, file_names, SpellsLayer, NameWords, plain_words}
use Rattle.shell_words.specs.Plan as plan
use Rattle.shell_words.specs.Plan.{OneWord, OnePlan}
use Rattle.shell_words.proofs.TextLemmas.{no_first, same_first, same_back, one_number}
use Rattle.shell_words.proofs.PiecesLemmas.{some_word, one_cut}
use Rattle.shell_words.proofs.LayerLemmas.{one_stack}

-- ---- the pieces of one word

none_behind : (rest behind : List (List ℕ)) → AreBehind rest behind → rest ≡ [] → behind ≡ []
none_behind rest [] ends none = refl
none_behind rest (word ∷ more) ends none = absurd (no_first (codes "--") (word ∷ more) (sym ends ∙ none))

-- where no word is left there is no piece more
no_pieces : (front : List Piece) (parts : List (List (List ℕ))) (rest behind : List (List ℕ)) → AllZip SpellsPiece front parts → AreBehind rest behind → flat_map (λ part. part) parts ++ rest ≡ [] → front ++ map stands behind ≡ []
no_pieces [] [] rest behind each ends none = ap (map stands) (none_behind rest behind ends none)
no_pieces [] (part ∷ parts) rest behind each ends none = absurd each
no_pieces (piece ∷ front) [] rest behind each ends none = absurd each
no_pieces (piece ∷ front) (part ∷ parts) rest behind each ends none =
    absurd (some_word piece part (flat_map (λ part. part) parts ++ rest) each.0 (sym (append_assoc part (flat_map (λ part. part) parts) rest) ∙ none))

-- one word is a piece that stands by itself, or none does
one_piece : (word : List ℕ) (front : List Piece) (parts : List (List (List ℕ))) (rest behind : List (List ℕ)) → AllZip SpellsPiece front parts → AreBehind rest behind →
    word ∷ [] ≡ flat_map (λ part. part) parts ++ rest → (front ++ map stands behind ≡ stands word ∷ []) ⊎ (standing (front ++ map stands behind) ≡ [])
one_piece word [] [] rest [] each ends is = inr refl
one_piece word [] [] rest (other ∷ more) each ends is = absurd (no_first other more (sym (same_first word (codes "--") [] (other ∷ more) (is ∙ ends)).1))
one_piece word [] (part ∷ parts) rest behind each ends is = absurd each
one_piece word (piece ∷ front) [] rest behind each ends is = absurd each
one_piece word (stands other ∷ front) (part ∷ parts) rest behind each ends is =
    let whole = is ∙ append_assoc part (flat_map (λ part. part) parts) rest ∙ ap (λ (p : List (List ℕ)). p ++ (flat_map (λ part. part) parts ++ rest)) each.0.0 in
    let both = same_first word other [] (flat_map (λ part. part) parts ++ rest) whole in
    inl (λ i. stands (sym both.0 i) ∷ no_pieces front parts rest behind each.1 ends (sym both.1) i)
one_piece word (sets setting value ∷ front) (part ∷ parts) rest behind each ends is = by each.0
  where
    whole : word ∷ [] ≡ part ++ (flat_map (λ part. part) parts ++ rest)
    whole = is ∙ append_assoc part (flat_map (λ part. part) parts) rest

    by : SpellsPiece (sets setting value) part → (sets setting value ∷ front ++ map stands behind ≡ stands word ∷ []) ⊎ (standing (front ++ map stands behind) ≡ [])
    by (inl two) = absurd (no_first value (flat_map (λ part. part) parts ++ rest)
        (sym (same_first word (setting_word setting) [] (value ∷ (flat_map (λ part. part) parts ++ rest)) (whole ∙ ap (λ (p : List (List ℕ)). p ++ (flat_map (λ part. part) parts ++ rest)) two.0)).1))
    by (inr one) = inr (ap standing (no_pieces front parts rest behind each.1 ends
        (sym (same_first word (setting_word setting ++ 61 ∷ value) [] (flat_map (λ part. part) parts ++ rest) (whole ∙ ap (λ (p : List (List ℕ)). p ++ (flat_map (λ part. part) parts ++ rest)) one)).1)))

-- ---- what the pieces name

one_count : (words : List (List ℕ)) (default least most n m : ℕ) → most < 2 ^ 64 → CountOf words default least most n → CountOf words default least most m → n ≡ m
one_count [] default least most n m small p q = p ∙ sym q
one_count (word ∷ []) default least most n m small p q = one_number least most word word n m small p q refl
one_count (word ∷ other ∷ more) default least most n m small p q = absurd p

one_some : (words : List (List ℕ)) (least most : ℕ) (n m : Option ℕ) → most < 2 ^ 64 → SomeCount words least most n → SomeCount words least most m → n ≡ m
one_some [] least most None None small p q = refl
one_some (word ∷ []) least most (Some n) (Some m) small p q = ap Some (one_number least most word word n m small p q refl)
one_some [] least most (Some n) m small p q = absurd p
one_some [] least most None (Some m) small p q = absurd q
one_some (word ∷ []) least most None m small p q = absurd p
one_some (word ∷ []) least most (Some n) None small p q = absurd q
one_some (word ∷ other ∷ more) least most n m small p q = absurd p

one_value : (words : List (List ℕ)) (asked other : Option (List ℕ)) → SomeWord words asked → SomeWord words other → asked ≡ other
one_value [] None None p q = refl
one_value (word ∷ []) (Some asked) (Some other) p q = ap Some (p ∙ sym q)
one_value [] (Some asked) other p q = absurd p
one_value [] None (Some other) p q = absurd q
one_value (word ∷ []) None other p q = absurd p
one_value (word ∷ []) (Some asked) None p q = absurd q
one_value (word ∷ another ∷ more) asked other p q = absurd p

same : (words : List (List ℕ)) (one other : Words) → NameWords words one → NameWords words other → one ≡ other
same words one other p q =
    let pieces = one_cut words p.pieces q.pieces p.spelled q.spelled in
    let stand = same_first one.plan.name other.plan.name p.layer_words q.layer_words (sym p.placed ∙ ap standing pieces ∙ q.placed) in
    let page = one_count (values_of plan.Page q.pieces) 4096 512 65536 one.plan.page other.plan.page (omega arith)
    (subst (λ (l : List Piece). CountOf (values_of plan.Page l) 4096 512 65536 one.plan.page) pieces p.page_is) q.page_is in
    let host = one_value (values_of plan.Host q.pieces) one.host other.host (subst (λ (l : List Piece). SomeWord (values_of plan.Host l) one.host) pieces p.host_is) q.host_is in
    let attached = one_value (values_of plan.Attach q.pieces) one.plan.attached other.plan.attached
    (subst (λ (l : List Piece). SomeWord (values_of plan.Attach l) one.plan.attached) pieces p.attached_is) q.attached_is in
    let load = one_some (values_of plan.Load q.pieces) 1 1000000 one.load other.load (omega arith)
    (subst (λ (l : List Piece). SomeCount (values_of plan.Load l) 1 1000000 one.load) pieces p.load_is) q.load_is in
    let key = one_count (values_of plan.Key q.pieces) 0 0 (2 ^ 64 - 1) one.key other.key (omega arith)
    (subst (λ (l : List Piece). CountOf (values_of plan.Key l) 0 0 (2 ^ 64 - 1) one.key) pieces p.key_is) q.key_is in
    let layers = one_stack other.plan.page q.layer_words one.plan.layers other.plan.layers (same_stack page stand.1) q.layers_are in
    λ i. record { plan = record { name = stand.0 i; attached = attached i; page = page i; layers = layers i }; host = host i; load = load i; key = key i }
  where
    same_stack : one.plan.page ≡ other.plan.page → p.layer_words ≡ q.layer_words → AllZip (SpellsLayer other.plan.page) q.layer_words one.plan.layers
    same_stack page words = subst (λ (n : ℕ). AllZip (SpellsLayer n) q.layer_words one.plan.layers) page (subst (λ (l : List (List ℕ)). AllZip (SpellsLayer one.plan.page) l one.plan.layers) words p.layers_are)

pub one_plan : OnePlan
one_plan = record { same = same }

-- ---- a name alone names it

not_digits : (digits : List ℕ) → digits ≡ codes "-journal" → ¬ (IsTrue (list_all is_ascii_digit digits))
not_digits digits is all = let here = subst (λ (d : List ℕ). IsTrue (list_all is_ascii_digit d)) is all in cc

from_journal : (name : List ℕ) → Separate name (journal_name name)
from_journal name = record {
  below = λ numbered. not_digits numbered.0 (same_back name numbered.0 (codes "-journal") (sym numbered.2)) numbered.1;
  above = λ numbered. longer name numbered.0 numbered.2;
}
  where
    longer : (name digits : List ℕ) → name ≢ journal_name name ++ digits
    longer name digits e = omega (arith, ap length e, length-append (name ++ codes "-journal") digits, length-append name (codes "-journal"))

own_names : (name : List ℕ) → AllPairs Separate (file_names name None)
own_names name zero zero d less within = absurd (omega (arith, less))
own_names name zero (suc zero) d less within = from_journal name
own_names name zero (suc (suc j)) d less within = absurd (omega (arith, within))
own_names name (suc i) j d less within = absurd (omega (arith, less, within))

is_value : (b : List ℕ) → IsDatabaseName b → is_dashed b ≡ false
is_value [] name = refl
is_value (b ∷ []) name = refl
is_value (b ∷ c ∷ more) name = by (b == 45) refl
  where
    by : (t : Bool) → (b == 45) ≡ t → t ≡ false
    by true e = absurd (name.no_dash (ap Some ((Decides-eqb b 45).0 e)))
    by false e = refl

names : (name : List ℕ) → IsDatabaseName name → NameWords (name ∷ []) (plain_words name)
names name is = record {
  pieces = stands name ∷ [];
  spelled = record { front = stands name ∷ []; parts = (name ∷ []) ∷ []; each = ((refl, is_value name is), tt); behind = []; rest = []; ends = inl refl; words_are = refl; pieces_are = refl };
  layer_words = [];
  placed = refl;
  page_is = refl;
  power = refl;
  host_is = tt;
  attached_is = tt;
  load_is = tt;
  key_is = refl;
  name = is;
  attached = tt;
  separate = own_names name;
  layers_are = tt;
  permitted = tt;
}

-- ---- and nothing else

named_alone : (word : List ℕ) (named : Words) (has : NameWords (word ∷ []) named) → has.pieces ≡ stands word ∷ [] → IsDatabaseName word
named_alone word named has one =
    subst IsDatabaseName (sym (same_first word named.plan.name [] has.layer_words (subst (λ (l : List Piece). standing l ≡ named.plan.name ∷ has.layer_words) one has.placed)).0) has.name

alone : (word : List ℕ) (named : Words) → NameWords (word ∷ []) named → IsDatabaseName word × (named ≡ plain_words word)
alone word named has =
    let s = has.spelled in
    let is = by (one_piece word s.front s.parts s.rest s.behind s.each s.ends s.words_are) in
    (is, same (word ∷ []) named (plain_words word) has (names word is))
  where
    by : (has.spelled.front ++ map stands has.spelled.behind ≡ stands word ∷ []) ⊎ (standing (has.spelled.front ++ map stands has.spelled.behind) ≡ []) → IsDatabaseName word
    by (inl one) = named_alone word named has (has.spelled.pieces_are ∙ one)
    by (inr none) = absurd (no_first named.plan.name has.layer_words (sym has.placed ∙ ap standing has.spelled.pieces_are ∙ none))

pub one_word : OneWord
one_word = record { names = names; alone = alone }
