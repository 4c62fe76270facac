-- The rows of a whole tree are read as those that a map has of them.
use Rattle.std.proofs.Common.{◌≡◌, ◌⊎◌, inl, inr, ℕ, ℤ, ◌≤ℤ◌, ◌<ℤ◌, int_le, Bool, true, false, cond, ◌&&◌, T, List, [], ◌∷◌, map, length, Option, Some, None, Ordering, refl, sym, ap, ap₂, subst, ◌∙◌, arith, true≢false}
use Rattle.std.specs.Prelude.{filter, option_map}
use Rattle.std.specs.List.{AllZip, AllByRecursion}
use Rattle.std.specs.Ordering.{int_cmp, is_lt, is_le, is_eq}
use Rattle.std.specs.declared.cmp.Ordering.TheVariants.{Less, Equal, Greater}
use Rattle.std.specs.Cmp.{int_cmp_total, int_cmp_is, IsTotalOrder}
use Rattle.std.proofs.lemmas.List.{length-map}
use Rattle.std.specs.FinMap as map
use Rattle.std.specs.FinMap.{FinMap, IsAntisymmetric, int_cmp-IsAntisymmetric, get-entries, get-from_entries, entries_sorted}
use Rattle.std.specs.FinMap.Entries.{find, below_all as above_it, is_sorted, same_entries}
use Rattle.page_list.specs.Pages.{Pages}
use Rattle.db_format.specs.Record.{IsRecord}
use Rattle.db_format.specs.Schema.{IsRecordOf}
use Rattle.db_format.specs.declared.value.Value.{Value}
use Rattle.tree_model.specs.declared.ends.PathEnd.{PathEnd}
use Rattle.tree_model.specs.declared.ends.PathEnd.TheVariants.{HasPayload, NoRow}
use Rattle.tree_model.specs.declared.ends.WalkEnd.TheVariants.{End}
use Rattle.tree_model.specs.Tree.{Row as Stored, Tree, rowid, rows_of, Within}
use Rattle.tree_model.specs.Whole.{IsWholeTree, below_all, greatest}
use Rattle.tree_model.specs.Walk.{Path}
use Rattle.tree_model.specs.Laws.{Rises, RowsRise, row_at, PathFinds, shown, rows_between as stored_between, WalkGives}
use Rattle.tree_model.proofs.IntLemmas.{by_le, is_le as is_le_ℤ, le_is, not_le_is, antisym_ℤ, le_lt_ℤ}
use Rattle.tree_model.proofs.RiseLemmas.{bounds_rise}
use Rattle.tree_model.proofs.PathLemmas.{rows_within}
use Rattle.book_model.specs.Book.{Row}
use Rattle.book_model.specs.Pages.{filled, entries_of, HasRows}
use Rattle.book_reads.specs.Reads.{least, ReadsAs, ReadsRows, HasRowOf, shown_row, rows_between, values_at}

both : (a b : Bool) → T a → T b → T (a && b)
both true b p q = q
both false b p q = p

-- ---- a map that is made of entries in order has just these

pub entries_from : {K X : Type 0} {R : K → K → Ordering} → IsTotalOrder R → IsAntisymmetric R → (es : List (K × X)) → T (is_sorted R es) → map.entries (map.from_entries {R = R} es) ≡ es
entries_from {R = R} total same es sorted =
    let made : FinMap R _ = map.from_entries es in
    same_entries R total same (map.entries made) es (entries_sorted made) sorted (λ q. sym (get-entries made q) ∙ get-from_entries total es q)

-- ---- the order of rowids, by the two tests

below_is : (a b : ℤ) → a <ℤ b → int_cmp a b ≡ Less
below_is a b less = sym (int_cmp_is a b Less less)

above_is : (a b : ℤ) → b <ℤ a → int_cmp a b ≡ Greater
above_is a b less = sym (int_cmp_is a b Greater less)

equal_is : (a b : ℤ) → a ≡ b → int_cmp a b ≡ Equal
equal_is a b same = sym (int_cmp_is a b Equal same)

same_test : (a b : ℤ) → is_le (int_cmp a b) ≡ int_le a b
same_test a b = by_le a b (λ at_most. by_le b a
    (λ at_least. ap is_le (equal_is a b (antisym_ℤ a b at_most at_least)) ∙ sym (le_is a b at_most))
    (λ less. ap is_le (below_is a b less) ∙ sym (le_is a b at_most)))
    (λ above. ap is_le (above_is a b above) ∙ sym (not_le_is a b above))

-- ---- the entries of rows that rise

all_above : (columns : ℕ) (key last : ℤ) (stored : List Stored) (contents : List (List Value)) → key ≤ℤ last → Rises last stored → T (above_it int_cmp key (entries_of columns stored contents))
all_above columns key last [] contents at_most rise = tt
all_above columns key last (row ∷ stored) [] at_most rise = tt
all_above columns key last (row ∷ stored) (values ∷ contents) at_most rise =
    let less : key <ℤ rowid row = le_lt_ℤ key last (rowid row) at_most rise.0 in
    both (is_lt (int_cmp key (rowid row))) (above_it int_cmp key (entries_of columns stored contents)) (subst (λ o. T (is_lt o)) (sym (below_is key (rowid row) less)) tt)
    (all_above columns key (rowid row) stored contents (grind (arith, less)) rise.1)

in_order : (columns : ℕ) (last : ℤ) (stored : List Stored) (contents : List (List Value)) → Rises last stored → T (is_sorted int_cmp (entries_of columns stored contents))
in_order columns last [] contents rise = tt
in_order columns last (row ∷ stored) [] rise = tt
in_order columns last (row ∷ stored) (values ∷ contents) rise =
    both (above_it int_cmp (rowid row) (entries_of columns stored contents)) (is_sorted int_cmp (entries_of columns stored contents))
    (all_above columns (rowid row) (rowid row) stored contents (grind arith) rise.1) (in_order columns (rowid row) stored contents rise.1)

-- the map of the rows of a tree has just their entries
pub entries_are : (columns : ℕ) (last : ℤ) (stored : List Stored) (rows : FinMap int_cmp Row) → Rises last stored → (has : HasRows columns stored rows) → map.entries rows ≡ entries_of columns stored has.contents
entries_are columns last stored rows rise has =
    ap (λ (m : FinMap int_cmp Row). map.entries m) has.is
    ∙ entries_from int_cmp_total int_cmp-IsAntisymmetric (entries_of columns stored has.contents) (in_order columns last stored has.contents rise)

-- ---- the walk

-- a row of a tree, as the map has it
row_reads : (columns : ℕ) (row : Stored) (values : List Value) → IsRecord row.payload values → ReadsAs columns (shown row) (rowid row, filled columns values)
row_reads columns row values is = record { keyed = refl; values = values; is_record = is; filled_up = refl }

abbrev within : ℤ → ℤ → ℤ × Row → Bool
within low high row = is_le (int_cmp low row.0) && is_le (int_cmp row.0 high)

between_reads : (columns : ℕ) (low high : ℤ) (stored : List Stored) (contents : List (List Value)) → AllZip (λ row values. IsRecord row.payload values) stored contents
    → AllZip (ReadsAs columns) (map shown (stored_between low high stored)) (map shown_row (filter (within low high) (entries_of columns stored contents)))
between_reads columns low high [] [] each = tt
between_reads columns low high [] (values ∷ contents) each = absurd each
between_reads columns low high (row ∷ stored) [] each = absurd each
between_reads columns low high (row ∷ stored) (values ∷ contents) each =
    let rest = between_reads columns low high stored contents each.1 in
    let entry : ℤ × Row = (rowid row, record { values = filled columns values; size = length row.payload }) in
    let more : List (ℤ × Row) = filter (within low high) (entries_of columns stored contents) in
    let test : Bool = int_le low (rowid row) && int_le (rowid row) high in
    let same : test ≡ within low high entry = ap₂ (λ a b. a && b) (sym (same_test low (rowid row))) (sym (same_test (rowid row) high)) in
    let P : Bool → Type 0 = λ b. AllZip (ReadsAs columns) (map shown (cond test (row ∷ stored_between low high stored) (stored_between low high stored))) (map shown_row (cond b (entry ∷ more) more)) in
    subst P same (by test entry more rest)
  where
    by : (b : Bool) (entry : ℤ × Row) (more : List (ℤ × Row)) → AllZip (ReadsAs columns) (map shown (stored_between low high stored)) (map shown_row more)
        → AllZip (ReadsAs columns) (map shown (cond b (row ∷ stored_between low high stored) (stored_between low high stored))) (map shown_row (cond b ((rowid row, record { values = filled columns values; size = length row.payload }) ∷ more) more))
    by true entry more rest = (row_reads columns row values each.0, rest)
    by false entry more rest = rest

-- each rowid is one
all_within : (columns : ℕ) (stored : List Stored) (contents : List (List Value)) → AllByRecursion (λ row. Within below_all greatest (rowid row)) stored
    → filter (within least greatest) (entries_of columns stored contents) ≡ entries_of columns stored contents
all_within columns [] contents all = refl
all_within columns (row ∷ stored) [] all = refl
all_within columns (row ∷ stored) (values ∷ contents) all =
    let entry : ℤ × Row = (rowid row, record { values = filled columns values; size = length row.payload }) in
    let more : List (ℤ × Row) = entries_of columns stored contents in
    let low : least ≤ℤ rowid row = grind (arith, all.0.0) in
    let front = same_test least (rowid row) ∙ le_is least (rowid row) low in
    let back = same_test (rowid row) greatest ∙ le_is (rowid row) greatest all.0.1 in
    let here : within least greatest entry ≡ true = ap₂ (λ a b. a && b) front back in
    ap (λ b. cond b (entry ∷ filter (within least greatest) more) (filter (within least greatest) more)) here ∙ ap (λ l. entry ∷ l) (all_within columns stored contents all.1)

-- the first of them is in the range
test_first : (low at : ℤ) (b : Bool) → (is_le (int_cmp low at) && b) ≡ true → low ≤ℤ at
test_first low at b both = by (is_le (int_cmp low at)) refl both
  where
    by : (t : Bool) → is_le (int_cmp low at) ≡ t → (t && b) ≡ true → low ≤ℤ at
    by true e both = is_le_ℤ low at (sym (same_test low at) ∙ e)
    by false e both = absurd (true≢false (sym both))

same_key : (e : ℤ × Row) (row : ℤ × List Value) (rest more : List (ℤ × List Value)) → shown_row e ∷ rest ≡ row ∷ more → shown_row e ≡ row
same_key e row rest more same = cc

no_first : (row : ℤ × List Value) (more : List (ℤ × List Value)) → ¬ ([] ≡ row ∷ more)
no_first row more same = cc

pub first_within : (low high : ℤ) (es : List (ℤ × Row)) (row : ℤ × List Value) (more : List (ℤ × List Value)) → map shown_row (filter (within low high) es) ≡ row ∷ more → low ≤ℤ row.0
first_within low high [] row more is = absurd (no_first row more is)
first_within low high (e ∷ es) row more is = by (first_within low high es row more) (within low high e) refl is
  where
    by : (map shown_row (filter (within low high) es) ≡ row ∷ more → low ≤ℤ row.0) → (b : Bool) → within low high e ≡ b
        → map shown_row (cond b (e ∷ filter (within low high) es) (filter (within low high) es)) ≡ row ∷ more → low ≤ℤ row.0
    by later true in_it is =
        let P : ℤ × List Value → Type 0 = λ r. low ≤ℤ r.0 in
        subst P (same_key e row (map shown_row (filter (within low high) es)) more is) (test_first low e.0 (is_le (int_cmp e.0 high)) in_it)
    by later false out is = later is

-- a whole tree of records, and the map of its rows
pub record HasTable (columns : ℕ) (pages : Pages) (root : ℕ) (rows : FinMap int_cmp Row) : Type 0 where
  pub tree : Tree
  pub whole : IsWholeTree pages root tree
  pub few : AllByRecursion (λ row. IsRecordOf columns row.payload) (rows_of tree)
  pub has : HasRows columns (rows_of tree) rows

pub walk_has : RowsRise → WalkGives → (columns : ℕ) (pages : Pages) (root : ℕ) (rows : FinMap int_cmp Row) → HasTable columns pages root rows → (low high : ℤ) → least ≤ℤ low
    → ReadsRows columns pages root low high (rows_between low high rows) End
walk_has rises gives columns pages root rows t low high above =
    let stored : List Stored = rows_of t.tree in
    let are = entries_are columns below_all stored rows (rises pages root t.tree t.whole) t.has in
    let P : List (ℤ × Row) → Type 0 = λ es. AllZip (ReadsAs columns) (map shown (stored_between low high stored)) (map shown_row (filter (within low high) es)) in
    record {
      stored = map shown (stored_between low high stored);
      walks = gives (Some columns) pages root t.tree low high t.whole t.few (grind (arith, above));
      each = subst P (sym are) (between_reads columns low high stored t.has.contents t.has.each);
    }

pub all_between : RowsRise → (columns : ℕ) (pages : Pages) (root : ℕ) (rows : FinMap int_cmp Row) → HasTable columns pages root rows → rows_between least greatest rows ≡ map shown_row (map.entries rows)
all_between rises columns pages root rows t =
    let are = entries_are columns below_all (rows_of t.tree) rows (rises pages root t.tree t.whole) t.has in
    let all = rows_within below_all greatest t.tree bounds_rise t.whole.ordered in
    let P : List (ℤ × Row) → Type 0 = λ es. filter (within least greatest) es ≡ es in
    ap (map shown_row) (subst P (sym are) (all_within columns (rows_of t.tree) t.has.contents all))

pub shown_length : (es : List (ℤ × Row)) → length (map shown_row es) ≡ length es
shown_length es = simp length-map

-- ---- the path

-- the end of a path says what the map has at its key
abbrev IsAt : ℕ → ℤ → PathEnd → Option (List Value) → Type 0
IsAt columns key end None = end ≡ NoRow
IsAt columns key end (Some values) = (payload : List ℕ) × (end ≡ HasPayload payload) × ReadsAs columns (key, payload) (key, values)

abbrev values_in : ℤ → List (ℤ × Row) → Option (List Value)
values_in key es = option_map (λ row. row.values) (find int_cmp key es)

is_at : (columns : ℕ) (key : ℤ) (end end' : PathEnd) (values values' : Option (List Value)) → end ≡ end' → values ≡ values' → IsAt columns key end' values' → IsAt columns key end values
is_at columns key end end' values values' p q is =
    let P : PathEnd → Type 0 = λ e. IsAt columns key e values in
    let Q : Option (List Value) → Type 0 = λ v. IsAt columns key end' v in
    subst P (sym p) (subst Q (sym q) is)

passed_by : (columns : ℕ) (key : ℤ) (row : Stored) (values : List Value) (es : List (ℤ × Row)) → int_cmp key (rowid row) ≡ Less ⊎ int_cmp key (rowid row) ≡ Greater
    → values_in key ((rowid row, record { values = filled columns values; size = length row.payload }) ∷ es) ≡ values_in key es
passed_by columns key row values es (inl less) =
    ap (λ o. option_map (λ (r : Row). r.values) (cond (is_eq o) (Some (record { values = filled columns values; size = length row.payload })) (find int_cmp key es))) less
passed_by columns key row values es (inr above) =
    ap (λ o. option_map (λ (r : Row). r.values) (cond (is_eq o) (Some (record { values = filled columns values; size = length row.payload })) (find int_cmp key es))) above

none_behind : (columns : ℕ) (key last : ℤ) (stored : List Stored) (contents : List (List Value)) → key ≤ℤ last → Rises last stored → values_in key (entries_of columns stored contents) ≡ None
none_behind columns key last [] contents at_most rise = refl
none_behind columns key last (row ∷ stored) [] at_most rise = refl
none_behind columns key last (row ∷ stored) (values ∷ contents) at_most rise =
    let less : key <ℤ rowid row = le_lt_ℤ key last (rowid row) at_most rise.0 in
    passed_by columns key row values (entries_of columns stored contents) (inl (below_is key (rowid row) less))
    ∙ none_behind columns key (rowid row) stored contents (grind (arith, less)) rise.1

at_row : (columns : ℕ) (key last : ℤ) (stored : List Stored) (contents : List (List Value)) → AllZip (λ row values. IsRecord row.payload values) stored contents → Rises last stored
    → IsAt columns key (row_at key stored) (values_in key (entries_of columns stored contents))
at_row columns key last [] [] each rise = refl
at_row columns key last [] (values ∷ contents) each rise = absurd each
at_row columns key last (row ∷ stored) [] each rise = absurd each
at_row columns key last (row ∷ stored) (values ∷ contents) each rise =
    let at : ℤ = rowid row in
    let more : List (ℤ × Row) = entries_of columns stored contents in
    let entry : Row = record { values = filled columns values; size = length row.payload } in
    let first : Bool → Bool → PathEnd = λ a b. cond a (cond b (HasPayload row.payload) NoRow) (row_at key stored) in
    let end : PathEnd = first (int_le key at) (int_le at key) in
    let found : Option (List Value) = values_in key ((at, entry) ∷ more) in
    by_le key at
    (λ on. by_le at key
    (λ back.
    let here = ap (λ o. option_map (λ (r : Row). r.values) (cond (is_eq o) (Some entry) (find int_cmp key more))) (equal_is key at (antisym_ℤ key at on back)) in
    is_at columns key end (HasPayload row.payload) found (Some (filled columns values)) (ap₂ first (le_is key at on) (le_is at key back)) here
    (row.payload, refl, record { keyed = refl; values = values; is_record = each.0; filled_up = refl }))
    (λ less. is_at columns key end NoRow found None (ap₂ first (le_is key at on) (not_le_is at key less))
    (passed_by columns key row values more (inl (below_is key at less)) ∙ none_behind columns key at stored contents on rise.1) refl))
    (λ after. is_at columns key end (row_at key stored) found (values_in key more) (ap (λ a. first a (int_le at key)) (not_le_is key at after))
    (passed_by columns key row values more (inr (above_is key at after))) (at_row columns key at stored contents each.1 rise.1))

path_at : (columns : ℕ) (pages : Pages) (root : ℕ) (key : ℤ) (end : PathEnd) (found : Option (List Value)) → Path (Some columns) pages root key end → IsAt columns key end found → HasRowOf columns pages root key found
path_at columns pages root key end None path is = let P : PathEnd → Type 0 = λ e. Path (Some columns) pages root key e in subst P is path
path_at columns pages root key end (Some values) path is = let P : PathEnd → Type 0 = λ e. Path (Some columns) pages root key e in (is.0, subst P is.1 path, is.2)

pub path_has : RowsRise → PathFinds → (columns : ℕ) (pages : Pages) (root : ℕ) (rows : FinMap int_cmp Row) → HasTable columns pages root rows → (rowid : ℤ)
    → HasRowOf columns pages root rowid (values_at rows rowid)
path_has rises finds columns pages root rows t key =
    let stored : List Stored = rows_of t.tree in
    let are = entries_are columns below_all stored rows (rises pages root t.tree t.whole) t.has in
    let P : List (ℤ × Row) → Type 0 = λ es. IsAt columns key (row_at key stored) (values_in key es) in
    let Q : Option Row → Type 0 = λ r. IsAt columns key (row_at key stored) (option_map (λ row. row.values) r) in
    let is = subst P (sym are) (at_row columns key below_all stored t.has.contents t.has.each (rises pages root t.tree t.whole)) in
    path_at columns pages root key (row_at key stored) (values_at rows key) (finds (Some columns) pages root t.tree t.whole t.few key) (subst Q (sym (get-entries rows key)) is)
