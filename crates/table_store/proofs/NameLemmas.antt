-- Which table a name finds among the rows of a schema.
use Rattle.std.proofs.Common.{◌≡◌, ◌≢◌, ℕ, ◌≤◌, Bool, true, false, cond, not, ◌||◌, List, [], ◌∷◌, length, get_or, drop, codes, Option, Some, None, refl, sym, ap, ap₂, ◌∙◌, arith, true≢false}
use Rattle.std.specs.Prelude.{filter}
use Rattle.std.specs.List.{list_any, flat_map, AllByRecursion, AllZip}
use Rattle.std.specs.Str.{bytes_eq, str_eq_ignore_ascii_case, str_to_ascii_lowercase}
use Rattle.std.specs.Ordering.{nat_cmp, eq_by_cmp}
use Rattle.std.specs.Cmp.Lexicographic.{slice_cmp}
use Rattle.std.proofs.lemmas.Cmp.{nat_list_cmp_total}
use Rattle.std.proofs.lemmas.List.Folds.{list_any-append}
use Rattle.std.proofs.lemmas.Map.Views.{any-filter_same}
use Rattle.std.proofs.lemmas.Slice.Eq.{bytes_eq-Decides}
use Rattle.std.specs.FinMap as map
use Rattle.std.specs.FinMap.{FinMap, nat_cmp-IsAntisymmetric, slice_cmp-IsAntisymmetric, get-entries, get-from_entries}
use Rattle.std.specs.FinMap.Entries.{find}
use Rattle.db_format.specs.Schema.{Table as Found, IsTableOf, tables_in}
use Rattle.db_format.specs.Plain.{plain_of, by_name, ArePlainTables}
use Rattle.db_format.specs.declared.plain.PlainTable.{PlainTable}
use Rattle.db_format.specs.declared.value.Value.{Value}
use Rattle.db_format.specs.declared.value.Value.TheVariants.{Null, Int, Text, Blob, Real}
use Rattle.book_model.specs.Book.{Name, taken_by}
use Rattle.book_model.specs.Pages.{table_named, foreign_in, once}
use Rattle.book_reads.specs.Reads.{Says, plain_named, is_named}
use Rattle.book_reads.proofs.SchemaLemmas.{no_entries}
use Rattle.book_reads.proofs.NameLemmas.{IsKeyed, tables_of, alike_lower, tied_names, apart_names, all_entries}
use Rattle.book_reads.proofs.TableLemmas.{named, names_keyed}
use Rattle.table_store.specs.declared.schema.Place.{Place}
use Rattle.table_store.specs.Steps.{IsPlaceOf, FindsIn, FindsForeignIn, FindsNothingIn, NamesTable}

no_Some : {A : Type 0} (a : A) → ¬ (None ≡ Some a)
no_Some a e = cc

some_no : {A : Type 0} (a : A) → ¬ (Some a ≡ None)
some_no a e = cc

-- ---- plain tables

-- a first table that has the name is the one that it finds, and another is passed by
pub first_named : (left : List PlainTable) (table : PlainTable) (name : Name) → 1 ≤ length left → table ≡ get_or left 0 table → str_eq_ignore_ascii_case name table.name ≡ true → plain_named left name ≡ Some table
first_named [] table name some is alike = absurd (omega arith)
first_named (t ∷ more) table name some is alike =
    ap (λ b. cond b (Some t) (plain_named more name)) (ap (λ (x : PlainTable). str_eq_ignore_ascii_case name x.name) (sym is) ∙ alike) ∙ ap (λ (x : PlainTable). Some x) (sym is)

pub passed_by : (left : List PlainTable) (table : PlainTable) (name : Name) → 1 ≤ length left → table ≡ get_or left 0 table → str_eq_ignore_ascii_case name table.name ≡ false
    → plain_named left name ≡ plain_named (drop 1 left) name
passed_by [] table name some is unlike = absurd (omega arith)
passed_by (t ∷ more) table name some is unlike =
    ap (λ b. cond b (Some t) (plain_named more name)) (ap (λ (x : PlainTable). str_eq_ignore_ascii_case name x.name) (sym is) ∙ unlike)

-- where one is there by a name, a name that is alike finds one
found_alike : (es : List (Name × PlainTable)) (name key : Name) (v : PlainTable) → AllByRecursion IsKeyed es → find (slice_cmp nat_cmp) key es ≡ Some v → str_eq_ignore_ascii_case name key ≡ true
    → ¬ (plain_named (tables_of es) name ≡ None)
found_alike [] name key v all at alike none = no_Some v at
found_alike (e ∷ es) name key v all at alike none = by (λ rest. found_alike es name key v all.1 rest alike) (str_eq_ignore_ascii_case name e.1.name) refl none
  where
    by : (find (slice_cmp nat_cmp) key es ≡ Some v → ¬ (plain_named (tables_of es) name ≡ None)) → (b : Bool) → str_eq_ignore_ascii_case name e.1.name ≡ b
        → ¬ (cond b (Some e.1) (plain_named (tables_of es) name) ≡ None)
    by later true here none = some_no e.1 none
    by later false unlike none =
        let other : key ≢ e.0 = λ same. true≢false (sym alike ∙ ap (str_eq_ignore_ascii_case name) (same ∙ all.0.named) ∙ unlike) in
        later (sym (ap (λ b. cond b (Some e.1) (find (slice_cmp nat_cmp) key es)) (apart_names key e.0 other)) ∙ at) none

unlike_all : (name : Name) (tables : List Found) → ((key : Name) (v : PlainTable) → find (slice_cmp nat_cmp) key (named tables) ≡ Some v → str_eq_ignore_ascii_case name key ≡ false)
    → AllByRecursion (λ t. str_eq_ignore_ascii_case name t.create.name ≡ false) tables
unlike_all name [] none = tt
unlike_all name (t ∷ more) none = (
  none t.create.name (plain_of t) (ap (λ b. cond b (Some (plain_of t)) (find (slice_cmp nat_cmp) t.create.name (named more))) (tied_names t.create.name t.create.name refl)),
  unlike_all name more (λ key v at. by key v at (eq_by_cmp (slice_cmp nat_cmp) key t.create.name) refl),
)
  where
    by : (key : Name) (v : PlainTable) → find (slice_cmp nat_cmp) key (named more) ≡ Some v → (b : Bool) → eq_by_cmp (slice_cmp nat_cmp) key t.create.name ≡ b
        → str_eq_ignore_ascii_case name key ≡ false
    by key v at true e = none key (plain_of t) (ap (λ b. cond b (Some (plain_of t)) (find (slice_cmp nat_cmp) key (named more))) e)
    by key v at false e = none key v (ap (λ b. cond b (Some (plain_of t)) (find (slice_cmp nat_cmp) key (named more))) e ∙ at)

-- where none is found, none of those that the rows make has the name
pub none_alike : (size : ℕ) (rows : List (List Value)) (plain : List PlainTable) (name : Name) → (are : ArePlainTables size rows plain) → plain_named plain name ≡ None
    → AllByRecursion (λ t. str_eq_ignore_ascii_case name t.create.name ≡ false) (tables_in are.found)
none_alike size rows plain name are none = unlike_all name (tables_in are.found) (λ key v at. by key v at (str_eq_ignore_ascii_case name key) refl)
  where
    by : (key : Name) (v : PlainTable) → find (slice_cmp nat_cmp) key (named (tables_in are.found)) ≡ Some v → (b : Bool) → str_eq_ignore_ascii_case name key ≡ b → b ≡ false
    by key v at true alike =
        let all : FinMap (slice_cmp nat_cmp) PlainTable = by_name (tables_in are.found) in
        absurd (found_alike (map.entries all) name key v (names_keyed size rows are.found are.each) (sym (get-entries all key) ∙ get-from_entries nat_list_cmp_total (named (tables_in are.found)) key ∙ at) alike
        (sym (ap (λ (l : List PlainTable). plain_named l name) are.plain_are) ∙ none))
    by key v at false unlike = refl

-- where one is found, there are pages
pages_of : (size : ℕ) (schema rows : List (List Value)) (found : List (Option Found)) → AllZip (IsTableOf size schema) rows found → AllByRecursion (λ e. 1 ≤ size) (named (tables_in found))
pages_of size schema [] [] each = tt
pages_of size schema [] (f ∷ found) each = absurd each
pages_of size schema (row ∷ rows) [] each = absurd each
pages_of size schema (row ∷ rows) (None ∷ found) each = pages_of size schema rows found each.1
pages_of size schema (row ∷ rows) (Some f ∷ found) each = (omega (arith, each.0.least, each.0.most), pages_of size schema rows found each.1)

first_of : (size : ℕ) (es : List (Name × PlainTable)) (name : Name) (table : PlainTable) → AllByRecursion (λ e. 1 ≤ size) es → plain_named (tables_of es) name ≡ Some table → 1 ≤ size
first_of size [] name table all is = absurd (no_Some table is)
first_of size (e ∷ es) name table all is = all.0

pub some_pages : (size : ℕ) (rows : List (List Value)) (plain : List PlainTable) (name : Name) (place : Place) → ArePlainTables size rows plain → IsPlaceOf plain name place → 1 ≤ size
some_pages size rows plain name place are is =
    let all : FinMap (slice_cmp nat_cmp) PlainTable = by_name (tables_in are.found) in
    let each = all_entries (slice_cmp nat_cmp) nat_list_cmp_total (slice_cmp-IsAntisymmetric nat_cmp-IsAntisymmetric) (λ (e : Name × PlainTable). 1 ≤ size) (named (tables_in are.found))
    (no_entries (slice_cmp nat_cmp) PlainTable) (pages_of size rows rows are.found are.each) in
    first_of size (map.entries all) name is.table each (sym (ap (λ (l : List PlainTable). plain_named l name) are.plain_are) ∙ is.finds)

-- ---- the others

-- a name is among names where it is among them once each
pub unlike_other : (name x n : Name) → str_eq_ignore_ascii_case name x ≡ false → str_eq_ignore_ascii_case name n ≡ true → not (str_eq_ignore_ascii_case x n) ≡ true
unlike_other name x n unlike alike = by (str_eq_ignore_ascii_case x n) refl
  where
    by : (b : Bool) → str_eq_ignore_ascii_case x n ≡ b → not b ≡ true
    by true same =
        let lower = alike_lower name n alike ∙ sym (alike_lower x n same) in
        absurd (true≢false (sym ((bytes_eq-Decides (str_to_ascii_lowercase name) (str_to_ascii_lowercase x)).1 lower) ∙ unlike))
    by false other = refl

once_named : (name : Name) (xs : List Name) → is_named (once xs) name ≡ is_named xs name
once_named name [] = refl
once_named name (x ∷ xs) = by (str_eq_ignore_ascii_case name x) refl (once_named name xs)
  where
    by : (b : Bool) → str_eq_ignore_ascii_case name x ≡ b → is_named (once xs) name ≡ is_named xs name
        → (b || list_any (str_eq_ignore_ascii_case name) (filter (λ other. not (str_eq_ignore_ascii_case x other)) (once xs))) ≡ (b || list_any (str_eq_ignore_ascii_case name) xs)
    by true alike rest = refl
    by false unlike rest =
        any-filter_same (str_eq_ignore_ascii_case name) (λ other. not (str_eq_ignore_ascii_case x other)) true (λ n alike. unlike_other name x n unlike alike) (once xs) ∙ rest

row_unnamed : (name : Name) (values : List Value) → ¬ (NamesTable values name) → is_named (table_named values) name ≡ false
row_unnamed name [] none = refl
row_unnamed name (Null ∷ more) none = refl
row_unnamed name (Int z ∷ more) none = refl
row_unnamed name (Blob b ∷ more) none = refl
row_unnamed name (Real b ∷ more) none = refl
row_unnamed name (Text kind ∷ []) none = refl
row_unnamed name (Text kind ∷ Null ∷ more) none = refl
row_unnamed name (Text kind ∷ Int z ∷ more) none = refl
row_unnamed name (Text kind ∷ Blob b ∷ more) none = refl
row_unnamed name (Text kind ∷ Real b ∷ more) none = refl
row_unnamed name (Text kind ∷ Text own ∷ more) none = by (bytes_eq kind (codes "table")) refl (str_eq_ignore_ascii_case name own) refl
  where
    by : (b : Bool) → bytes_eq kind (codes "table") ≡ b → (a : Bool) → str_eq_ignore_ascii_case name own ≡ a → is_named (cond b (own ∷ []) []) name ≡ false
    by true table true alike =
        absurd (none (record { own = own; more = more; values_are = ap (λ (k : List ℕ). Text k ∷ Text own ∷ more) ((bytes_eq-Decides kind (codes "table")).0 table); alike = alike }))
    by true table false unlike = ap (λ b. b || false) unlike
    by false other a is = refl

row_named : (name : Name) (values : List Value) → is_named (table_named values) name ≡ false → ¬ (NamesTable values name)
row_named name values none is =
    true≢false (sym (ap (λ (v : List Value). is_named (table_named v) name) is.values_are ∙ ap (λ b. b || false) is.alike) ∙ none)

none_foreign : (size : ℕ) (schema rows : List (List Value)) (found : List (Option Found)) (name : Name) → AllZip (IsTableOf size schema) rows found → AllByRecursion (λ row. ¬ (NamesTable row name)) rows
    → is_named (foreign_in rows found) name ≡ false
none_foreign size schema [] [] name each none = refl
none_foreign size schema [] (f ∷ found) name each none = absurd each
none_foreign size schema (row ∷ rows) [] name each none = absurd each
none_foreign size schema (row ∷ rows) (None ∷ found) name each none =
    list_any-append (str_eq_ignore_ascii_case name) (table_named row) (foreign_in rows found)
    ∙ ap₂ (λ a b. a || b) (row_unnamed name row none.0) (none_foreign size schema rows found name each.1 none.1)
none_foreign size schema (row ∷ rows) (Some f ∷ found) name each none = none_foreign size schema rows found name each.1 none.1

both_false : (a b : Bool) → (a || b) ≡ false → (a ≡ false) × (b ≡ false)
both_false true b e = absurd (true≢false e)
both_false false b e = (refl, e)

same_name : (own name : Name) (more rest : List Value) → Text (codes "table") ∷ Text own ∷ more ≡ Text (codes "table") ∷ Text name ∷ rest → own ≡ name
same_name own name more rest e = cc

all_unnamed : (size : ℕ) (schema rows : List (List Value)) (found : List (Option Found)) (name : Name) → AllZip (IsTableOf size schema) rows found
    → AllByRecursion (λ t. str_eq_ignore_ascii_case name t.create.name ≡ false) (tables_in found) → is_named (foreign_in rows found) name ≡ false → AllByRecursion (λ row. ¬ (NamesTable row name)) rows
all_unnamed size schema [] found name each plain none = tt
all_unnamed size schema (row ∷ rows) [] name each plain none = absurd each
all_unnamed size schema (row ∷ rows) (None ∷ found) name each plain none =
    let both = both_false (is_named (table_named row) name) (is_named (foreign_in rows found) name)
    (sym (list_any-append (str_eq_ignore_ascii_case name) (table_named row) (foreign_in rows found)) ∙ none) in
    (row_named name row both.0, all_unnamed size schema rows found name each.1 plain both.1)
all_unnamed size schema (row ∷ rows) (Some f ∷ found) name each plain none =
    (unlike, all_unnamed size schema rows found name each.1 plain.1 none)
  where
    unlike : ¬ (NamesTable row name)
    unlike is =
        let own = same_name is.own f.create.name is.more _ (sym is.values_are ∙ each.0.values_are) in
        true≢false (sym is.alike ∙ ap (str_eq_ignore_ascii_case name) own ∙ plain.0)

-- ---- what the rows say of a name

says_of : (size : ℕ) (rows : List (List Value)) (plain : List PlainTable) → (are : ArePlainTables size rows plain) → Says size rows plain (once (foreign_in rows are.found)) (flat_map taken_by rows)
says_of size rows plain are = record { found = are.found; each = are.each; plain_are = are.plain_are; foreign_are = refl; taken_are = refl }

pub finds_in : (size : ℕ) (rows : List (List Value)) (plain : List PlainTable) (name : Name) (place : Place) → ArePlainTables size rows plain → IsPlaceOf plain name place → FindsIn size rows name place
finds_in size rows plain name place are is = record {
  plain = plain;
  foreign = once (foreign_in rows are.found);
  taken = flat_map taken_by rows;
  says = says_of size rows plain are;
  place_is = is;
}

pub finds_nothing : (size : ℕ) (rows : List (List Value)) (plain : List PlainTable) (name : Name) → ArePlainTables size rows plain → plain_named plain name ≡ None → AllByRecursion (λ row. ¬ (NamesTable row name)) rows
    → FindsNothingIn size rows name
finds_nothing size rows plain name are none unnamed = record {
  plain = plain;
  foreign = once (foreign_in rows are.found);
  taken = flat_map taken_by rows;
  says = says_of size rows plain are;
  none = none;
  unnamed = once_named name (foreign_in rows are.found) ∙ none_foreign size rows rows are.found name are.each unnamed;
}

pub finds_foreign : (size : ℕ) (rows : List (List Value)) (plain : List PlainTable) (name : Name) → ArePlainTables size rows plain → plain_named plain name ≡ None → ¬ (AllByRecursion (λ row. ¬ (NamesTable row name)) rows)
    → FindsForeignIn size rows name
finds_foreign size rows plain name are none some = record {
  plain = plain;
  foreign = once (foreign_in rows are.found);
  taken = flat_map taken_by rows;
  says = says_of size rows plain are;
  none = none;
  named = once_named name (foreign_in rows are.found) ∙ by (is_named (foreign_in rows are.found) name) refl;
}
  where
    by : (b : Bool) → is_named (foreign_in rows are.found) name ≡ b → b ≡ true
    by true e = refl
    by false e = absurd (some (all_unnamed size rows rows are.found name are.each (none_alike size rows plain name are none) e))
