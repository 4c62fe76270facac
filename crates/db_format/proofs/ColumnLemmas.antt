use Rattle.std.proofs.Common.{◌≡◌, ℕ, suc, ◌≤◌, ◌<◌, nat_eq, Bool, false, List, [], ◌∷◌, ◌++◌, length, map, refl, sym, ap, ◌∙◌, subst, arith, All, append-nil, append_assoc}
use Rattle.std.proofs.lemmas.List.{get_or-replicate, length-replicate, length-map, append_cancel_right}
use Rattle.std.proofs.lemmas.List.Elements.{All-append}
use Rattle.std.proofs.lemmas.List.Splits.{slice_split_none, slice_split_at, length-slice_split, join_with_byte-slice_split}
use Rattle.std.specs.List.{slice_split, join_with_byte, flat_map, AllZip, count_by}
use Rattle.db_format.specs.declared.create.Create.{Create}
use Rattle.db_format.specs.Create.{blanks, IsIdentifier, AreColumns, IsPlain, IsPadded, SpellsColumns, Spells, written}
use Rattle.db_format.proofs.PartsLemmas.{create_table, name_free, parts_only}
use Rattle.db_format.proofs.BlankLemmas.{unpadded, padded_is, padded_only, other_byte}

abbrev pub is_comma : ℕ → Bool
is_comma b = nat_eq b 44

-- names with a comma between two are the first, and each other behind a comma
pub join_is : (x : List ℕ) (xs : List (List ℕ)) → join_with_byte 44 (x ∷ xs) ≡ x ++ flat_map (λ (y : List ℕ). 44 ∷ y) xs
join_is x [] = sym (append-nil x)
join_is x (y ∷ ys) = ap (λ r. x ++ 44 ∷ r) (join_is y ys)

-- a text is what stands between its commas, each freed of its blanks
all_padded : (pieces : List (List ℕ)) → AllZip IsPadded pieces (map unpadded pieces)
all_padded [] = tt
all_padded (x ∷ xs) = (padded_is x, all_padded xs)

pub columns_found : (inside : List ℕ) → SpellsColumns inside (map unpadded (slice_split is_comma inside))
columns_found inside = record {
  pieces = slice_split is_comma inside;
  whole = sym (join_with_byte-slice_split 44 inside);
  padded = all_padded (slice_split is_comma inside);
}

-- no comma stands in a padded name
blanks_free : (count : ℕ) → All (λ b. is_comma b ≡ false) (blanks count)
blanks_free count k d within = ap is_comma (get_or-replicate count k 32 d (omega (arith, length-replicate {A = ℕ} count 32)))

padded_free : (piece name : List ℕ) → IsIdentifier name → IsPadded piece name → All (λ b. is_comma b ≡ false) piece
padded_free piece name is padded =
    subst (All (λ b. is_comma b ≡ false)) (sym padded.whole)
    (All-append (λ b. is_comma b ≡ false) (blanks padded.before) (name ++ blanks padded.after) (blanks_free padded.before)
    (All-append (λ b. is_comma b ≡ false) name (blanks padded.after) (λ k d within. other_byte name 44 is refl k d within) (blanks_free padded.after)))

-- so padded names with commas between them are found again
columns_again : (pieces columns : List (List ℕ)) → 1 ≤ length columns → All IsIdentifier columns → AllZip IsPadded pieces columns
    → map unpadded (slice_split is_comma (join_with_byte 44 pieces)) ≡ columns
columns_again pieces [] some each padded = absurd (omega arith)
columns_again [] (c ∷ cs) some each padded = absurd padded
columns_again (x ∷ []) (c ∷ []) some each padded =
    let is : IsIdentifier c = each 0 c (omega arith) in
    ap (map unpadded) (slice_split_none is_comma x (padded_free x c is padded.0)) ∙ ap (λ n. n ∷ []) (padded_only x c is padded.0)
columns_again (x ∷ []) (c ∷ d ∷ cs) some each padded = absurd padded.1
columns_again (x ∷ y ∷ ys) (c ∷ []) some each padded = absurd padded.1
columns_again (x ∷ y ∷ ys) (c ∷ d ∷ cs) some each padded =
    let is : IsIdentifier c = each 0 c (omega arith) in
    let rest = columns_again (y ∷ ys) (d ∷ cs) (omega arith) (λ k e within. each (suc k) e (omega arith)) padded.1 in
    ap (map unpadded) (slice_split_at is_comma x 44 (join_with_byte 44 (y ∷ ys)) (padded_free x c is padded.0) refl)
    ∙ ap (λ n. n ∷ map unpadded (slice_split is_comma (join_with_byte 44 (y ∷ ys)))) (padded_only x c is padded.0)
    ∙ ap (λ ns. c ∷ ns) rest

pub columns_only : (inside : List ℕ) (columns : List (List ℕ)) → AreColumns columns → SpellsColumns inside columns → map unpadded (slice_split is_comma inside) ≡ columns
columns_only inside columns are spelled =
    ap (λ text. map unpadded (slice_split is_comma text)) spelled.whole ∙ columns_again spelled.pieces columns are.some are.each spelled.padded

-- there is one column more than commas
pub commas_few : (inside : List ℕ) (columns : List (List ℕ)) → AreColumns columns → SpellsColumns inside columns → count_by is_comma inside < 32
commas_few inside columns are spelled =
    omega (arith, length-slice_split is_comma inside, length-map (slice_split is_comma inside) unpadded, ap length (columns_only inside columns are spelled), are.few)

-- what is written is spelled so
all_bare : (columns : List (List ℕ)) → AllZip IsPadded columns columns
all_bare [] = tt
all_bare (c ∷ cs) = (record { before = 0; after = 0; whole = sym (append-nil c) }, all_bare cs)

pub written_spells : (text : List ℕ) (create : Create) → IsPlain create → text ≡ written create → Spells text create
written_spells text create plain text_is = record {
  plain = plain;
  inside = join_with_byte 44 create.columns;
  parts = record { before = 0; after = 0; whole = text_is };
  columned = record { pieces = create.columns; whole = refl; padded = all_bare create.columns };
}

-- two tables that one text spells are the same
pub one_create : (text : List ℕ) (a b : Create) → Spells text a → Spells text b → a ≡ b
one_create text a b first second =
    let head : List ℕ = a.name ++ blanks first.parts.before in
    let rest : List ℕ = first.inside ++ 41 ∷ blanks first.parts.after in
    let text_is : text ≡ create_table ++ (head ++ 40 ∷ rest) =
    first.parts.whole ∙ ap (λ t. create_table ++ t) (sym (append_assoc a.name (blanks first.parts.before) (40 ∷ rest))) in
    let free = name_free a.name first.parts.before first.plain.named in
    let by_first = parts_only text head rest a.name first.inside text_is free first.plain.named first.parts in
    let by_second = parts_only text head rest b.name second.inside text_is free second.plain.named second.parts in
    let inside_is : first.inside ≡ second.inside = append_cancel_right first.inside second.inside (41 ∷ []) (sym by_first.1 ∙ by_second.1) in
    let name_is : a.name ≡ b.name = sym by_first.0 ∙ by_second.0 in
    let columns_are : a.columns ≡ b.columns =
    sym (columns_only first.inside a.columns first.plain.columned first.columned)
    ∙ ap (λ t. map unpadded (slice_split is_comma t)) inside_is
    ∙ columns_only second.inside b.columns second.plain.columned second.columned in
    λ i. record { name = name_is i; columns = columns_are i }
