-- The row of a new table among those of a schema.
use Rattle.std.proofs.Common.{◌≡◌, ◌≢◌, inl, inr, ℕ, ◌≤◌, Bool, true, false, if◌then◌else◌, ◌||◌, ◌&&◌, T, ℤ, pos, ◌<ℤ◌, ◌≤ℤ◌, int_le, List, [], ◌∷◌, ◌++◌, map, codes, Option, Some, None, IsTrue, refl, sym, ap, ap₂, subst, ◌∙◌, arith, append-nil}
use Rattle.std.specs.declared.cmp.Ordering.TheVariants.{Less}
use Rattle.std.specs.List.{flat_map, list_any, join_with_byte, AllByRecursion, AllZip}
use Rattle.std.specs.Ordering.{int_cmp, is_lt}
use Rattle.std.specs.Cmp.{int_cmp_total, int_cmp_is}
use Rattle.std.specs.Str.{str_eq_ignore_ascii_case, str_to_ascii_lowercase}
use Rattle.std.proofs.lemmas.Slice.Eq.{bytes_eq-Decides}
use Rattle.std.specs.FinMap as map
use Rattle.std.specs.FinMap.{FinMap, entries, entries_sorted, get-entries, get-from_entries, int_cmp-IsAntisymmetric}
use Rattle.std.specs.FinMap.Entries.{below_all, is_sorted, same_entries}
use Rattle.db_format.specs.Record.{IsRecord, OneRecord}
use Rattle.db_format.specs.Create.{IsPlain, IsPadded, Spells, written}
use Rattle.db_format.specs.Schema.{Table as Found, tables_in, IsOn, IsPlainRow, IsTableOf, NamesDiffer, IsSchemaRow, HasRootWithin}
use Rattle.db_format.specs.declared.create.Create.{Create}
use Rattle.db_format.specs.declared.value.Value.{Value}
use Rattle.db_format.specs.declared.value.Value.TheVariants.{Int, Text}
use Rattle.tree_model.specs.Tree.{Row as Stored, Tree, rowid}
use Rattle.tree_model.specs.Laws.{Rises, shown, row_at}
use Rattle.tree_model.specs.declared.ends.PathEnd.TheVariants.{HasPayload, NoRow}
use Rattle.book_model.specs.Book.{Name, Row, Table, Book, text_in, taken_by, is_taken}
use Rattle.book_model.specs.Pages.{filled, entries_of, HasRows, AreTables}
use Rattle.tree_put.specs.Keeps.{put_shown}
use Rattle.book_changes.proofs.RowLemmas.{Shown, is_there, all_filled}
use Rattle.book_changes.proofs.TableLemmas.{all_append, all_at}

-- ---- its place among the rows

-- where no row has the key, the new one stands between others
pub record PutBetween (key : ℤ) (payload : List ℕ) (stored : List Stored) : Type 0 where
  pub e : List Stored
  pub e' : List Stored
  pub is : stored ≡ e ++ e'
  pub put : put_shown (key, payload) (map shown stored) ≡ map shown e ++ (key, payload) ∷ map shown e'

pub put_between : (key : ℤ) (payload : List ℕ) (stored : List Stored) → is_there (row_at key stored) ≡ false → PutBetween key payload stored
put_between key payload [] none = record { e = []; e' = []; is = refl; put = refl }
put_between key payload (row ∷ stored) none = by (put_between key payload stored) (int_le key (rowid row)) (int_le (rowid row) key) refl refl none
  where
    step : Bool → Bool → Shown
    step a b = if a then (if b then (key, payload) ∷ map shown stored else (key, payload) ∷ map shown (row ∷ stored)) else shown row ∷ put_shown (key, payload) (map shown stored)

    by : (is_there (row_at key stored) ≡ false → PutBetween key payload stored) → (a b : Bool) → int_le key (rowid row) ≡ a → int_le (rowid row) key ≡ b
        → is_there (if a then (if b then HasPayload row.payload else NoRow) else row_at key stored) ≡ false → PutBetween key payload (row ∷ stored)
    by more true true p q none = absurd (subst T none tt)
    by more true false p q none = record {
      e = [];
      e' = row ∷ stored;
      is = refl;
      put = ap₂ (λ a b. if a then (if b then (key, payload) ∷ map shown stored else (key, payload) ∷ map shown (row ∷ stored)) else shown row ∷ put_shown (key, payload) (map shown stored)) p q;
    }
    by more false b p q none =
        let rest = more none in
        record {
          e = row ∷ rest.e;
          e' = rest.e';
          is = ap (λ (l : List Stored). row ∷ l) rest.is;
          put = ap (λ a. if a then (if int_le (rowid row) key then (key, payload) ∷ map shown stored else (key, payload) ∷ map shown (row ∷ stored)) else shown row ∷ put_shown (key, payload) (map shown stored)) p
              ∙ ap (λ (l : Shown). shown row ∷ l) rest.put;
        }

-- the tables at a place between rows
pub record TablesSplit (e e' : List Stored) (found : List (Option Found)) (trees : List Tree) (tables : List (Name × Table)) : Type 0 where
  pub f : List (Option Found)
  pub f' : List (Option Found)
  pub t : List Tree
  pub t' : List Tree
  pub b : List (Name × Table)
  pub b' : List (Name × Table)
  pub found_are : found ≡ f ++ f'
  pub trees_are : trees ≡ t ++ t'
  pub tables_are : tables ≡ b ++ b'
  pub front : AreTables e f t b
  pub back : AreTables e' f' t' b'

pub split_tables : (e e' : List Stored) (found : List (Option Found)) (trees : List Tree) (tables : List (Name × Table)) → AreTables (e ++ e') found trees tables → TablesSplit e e' found trees tables
split_tables [] e' found trees tables are = record {
  f = [];
  f' = found;
  t = [];
  t' = trees;
  b = [];
  b' = tables;
  found_are = refl;
  trees_are = refl;
  tables_are = refl;
  front = tt;
  back = are;
}
split_tables (x ∷ e) e' [] trees tables are = absurd are
split_tables (x ∷ e) e' (None ∷ found) trees tables are =
    let rest = split_tables e e' found trees tables are in
    record {
      f = None ∷ rest.f;
      f' = rest.f';
      t = rest.t;
      t' = rest.t';
      b = rest.b;
      b' = rest.b';
      found_are = ap (λ (l : List (Option Found)). None ∷ l) rest.found_are;
      trees_are = rest.trees_are;
      tables_are = rest.tables_are;
      front = rest.front;
      back = rest.back;
    }
split_tables (x ∷ e) e' (Some g ∷ found) [] tables are = absurd are
split_tables (x ∷ e) e' (Some g ∷ found) (tree ∷ trees) [] are = absurd are
split_tables (x ∷ e) e' (Some g ∷ found) (tree ∷ trees) (y ∷ tables) are =
    let rest = split_tables e e' found trees tables are.1 in
    record {
      f = Some g ∷ rest.f;
      f' = rest.f';
      t = tree ∷ rest.t;
      t' = rest.t';
      b = y ∷ rest.b;
      b' = rest.b';
      found_are = ap (λ (l : List (Option Found)). Some g ∷ l) rest.found_are;
      trees_are = ap (λ (l : List Tree). tree ∷ l) rest.trees_are;
      tables_are = ap (λ (l : List (Name × Table)). y ∷ l) rest.tables_are;
      front = (are.0, rest.front);
      back = rest.back;
    }

-- ---- names that are taken

-- the rows of a tree rise, so they stand in the map in their order
all_above : (columns : ℕ) (key last : ℤ) (stored : List Stored) (contents : List (List Value)) → key ≤ℤ last → Rises last stored → T (below_all int_cmp key (entries_of columns stored contents))
all_above columns key last [] contents less rise = tt
all_above columns key last (row ∷ stored) [] less rise = tt
all_above columns key last (row ∷ stored) (values ∷ contents) less rise =
    let above : key <ℤ rowid row = grind (arith, less, rise.0) in
    subst (λ o. T (is_lt o && below_all int_cmp key (entries_of columns stored contents))) (int_cmp_is key (rowid row) Less above)
    (all_above columns key (rowid row) stored contents (grind (arith, above)) rise.1)

both_true : (a b : Bool) → T a → T b → T (a && b)
both_true true b p q = q
both_true false b p q = p

in_order : (columns : ℕ) (last : ℤ) (stored : List Stored) (contents : List (List Value)) → Rises last stored → T (is_sorted int_cmp (entries_of columns stored contents))
in_order columns last [] contents rise = tt
in_order columns last (row ∷ stored) [] rise = tt
in_order columns last (row ∷ stored) (values ∷ contents) rise =
    both_true (below_all int_cmp (rowid row) (entries_of columns stored contents)) (is_sorted int_cmp (entries_of columns stored contents))
    (all_above columns (rowid row) (rowid row) stored contents (grind arith) rise.1) (in_order columns (rowid row) stored contents rise.1)

pub entries_are : (columns : ℕ) (last : ℤ) (stored : List Stored) (rows : FinMap int_cmp Row) → Rises last stored → (has : HasRows columns stored rows) → entries rows ≡ entries_of columns stored has.contents
entries_are columns last stored rows rise has =
    same_entries int_cmp int_cmp_total int_cmp-IsAntisymmetric (entries rows) (entries_of columns stored has.contents) (entries_sorted rows) (in_order columns last stored has.contents rise)
    (λ q. sym (get-entries rows q) ∙ ap (λ m. map.get m q) has.is ∙ get-from_entries int_cmp_total (entries_of columns stored has.contents) q)

pub same_contents : OneRecord → (stored : List Stored) (a b : List (List Value)) → AllZip (λ row values. IsRecord row.payload values) stored a
    → AllZip (λ row values. IsRecord row.payload values) stored b → a ≡ b
same_contents one [] [] [] x y = refl
same_contents one [] [] (w ∷ b) x y = absurd y
same_contents one [] (v ∷ a) b x y = absurd x
same_contents one (row ∷ stored) [] b x y = absurd x
same_contents one (row ∷ stored) (v ∷ a) [] x y = absurd y
same_contents one (row ∷ stored) (v ∷ a) (w ∷ b) x y = ap₂ (λ (p : List Value) (q : List (List Value)). p ∷ q) (one row.payload v w x.0 y.0) (same_contents one stored a b x.1 y.1)

abbrev pub NotTaken : Name → List Value → Type 0
NotTaken name values = list_any (str_eq_ignore_ascii_case name) (taken_by values) ≡ false

any_append : (p : Name → Bool) (xs ys : List Name) → list_any p (xs ++ ys) ≡ false → (list_any p xs ≡ false) × (list_any p ys ≡ false)
any_append p [] ys none = (refl, none)
any_append p (x ∷ xs) ys none = by (p x) (any_append p xs ys) none
  where
    by : (b : Bool) → (list_any p (xs ++ ys) ≡ false → (list_any p xs ≡ false) × (list_any p ys ≡ false)) → (b || list_any p (xs ++ ys)) ≡ false → ((b || list_any p xs) ≡ false) × (list_any p ys ≡ false)
    by true rest none = absurd (subst T none tt)
    by false rest none = rest none

taken_each : (name : Name) (stored : List Stored) (contents : List (List Value)) → AllZip (λ row values. IsRecord row.payload values) stored contents → AllByRecursion IsSchemaRow contents
    → list_any (str_eq_ignore_ascii_case name) (flat_map (λ (row : Row). taken_by row.values) (map (λ (e : ℤ × Row). e.1) (entries_of 5 stored contents))) ≡ false
    → AllByRecursion (NotTaken name) contents
taken_each name [] [] each five none = tt
taken_each name [] (values ∷ contents) each five none = absurd each
taken_each name (row ∷ stored) [] each five none = tt
taken_each name (row ∷ stored) (values ∷ contents) each five none =
    let parts = any_append (str_eq_ignore_ascii_case name) (taken_by (filled 5 values)) _ none in
    (subst (NotTaken name) (all_filled 5 values five.0.five) parts.0, taken_each name stored contents each.1 five.1 parts.1)

pub none_taken : OneRecord → (name : Name) (book : Book) (last : ℤ) (stored : List Stored) (rows : List (List Value)) → Rises last stored → HasRows 5 stored book.schema
    → AllZip (λ row values. IsRecord row.payload values) stored rows → AllByRecursion IsSchemaRow rows → is_taken book name ≡ false → AllByRecursion (NotTaken name) rows
none_taken one name book last stored rows rise has records five none =
    let same : has.contents ≡ rows = same_contents one stored has.contents rows has.each records in
    let E : List (ℤ × Row) → Type 0 = λ es. list_any (str_eq_ignore_ascii_case name) (flat_map (λ (row : Row). taken_by row.values) (map (λ (e : ℤ × Row). e.1) es)) ≡ false in
    taken_each name stored rows records five (subst E (entries_are 5 last stored book.schema rise has ∙ ap (entries_of 5 stored) same) none)

alike_turned : (a b : Name) → IsTrue (str_eq_ignore_ascii_case a b) → str_eq_ignore_ascii_case b a ≡ true
alike_turned a b same =
    (bytes_eq-Decides (str_to_ascii_lowercase b) (str_to_ascii_lowercase a)).1 (sym ((bytes_eq-Decides (str_to_ascii_lowercase a) (str_to_ascii_lowercase b)).0 same))

alike_itself : (a b : Name) → a ≡ b → str_eq_ignore_ascii_case b a ≡ true
alike_itself a b same = (bytes_eq-Decides (str_to_ascii_lowercase b) (str_to_ascii_lowercase a)).1 (ap str_to_ascii_lowercase (sym same))

one_is : (b : Bool) → b ≡ true → (b || false) ≡ false → ⊥
one_is true is none = absurd (subst T none tt)
one_is false is none = absurd (subst T (sym is) tt)

-- no index and no trigger is on a table whose name is not taken
not_on_taken : (name : Name) (values : List Value) → NotTaken name values → ¬ (IsOn values name)
not_on_taken name values none on =
    let K : List ℕ → Type 0 = λ kind. NotTaken name (Text kind ∷ on.name ∷ Text on.on ∷ on.more) in
    let here : K on.kind = subst (NotTaken name) on.values_are none in
    let bad : list_any (str_eq_ignore_ascii_case name) (text_in on.name ++ on.on ∷ []) ≡ false → ⊥ =
    λ none. one_is (str_eq_ignore_ascii_case name on.on) (alike_turned on.on name on.same) (any_append (str_eq_ignore_ascii_case name) (text_in on.name) (on.on ∷ []) none).1 in
    elim on.is_kind [
      | inl index ↦ bad (subst K index here)
      | inr trigger ↦ bad (subst K trigger here)
    ]

pub none_on : (name : Name) (rows : List (List Value)) → AllByRecursion (NotTaken name) rows → AllByRecursion (λ other. ¬ (IsOn other name)) rows
none_on name [] all = tt
none_on name (values ∷ rows) all = (not_on_taken name values all.0, none_on name rows all.1)

-- no plain table has it
other_name : (size : ℕ) (schema : List (List Value)) (name : Name) (values : List Value) (table : Found) → IsPlainRow size schema values table → NotTaken name values → table.create.name ≢ name
other_name size schema name values table plain none same =
    let here = subst (NotTaken name) plain.values_are none in
    one_is (str_eq_ignore_ascii_case name table.create.name) (alike_itself table.create.name name same) here

pub other_names : (size : ℕ) (schema rows : List (List Value)) (found : List (Option Found)) (name : Name) → AllZip (IsTableOf size schema) rows found → AllByRecursion (NotTaken name) rows
    → AllByRecursion (λ (other : Found). other.create.name ≢ name) (tables_in found)
other_names size schema [] [] name each all = tt
other_names size schema [] (f ∷ found) name each all = absurd each
other_names size schema (values ∷ rows) [] name each all = absurd each
other_names size schema (values ∷ rows) (None ∷ found) name each all = other_names size schema rows found name each.1 all.1
other_names size schema (values ∷ rows) (Some table ∷ found) name each all = (other_name size schema name values table each.0 all.0, other_names size schema rows found name each.1 all.1)

pub names_with : (one : Found) (xs ys : List Found) → NamesDiffer (xs ++ ys) → AllByRecursion (λ (other : Found). other.create.name ≢ one.create.name) (xs ++ ys) → NamesDiffer (xs ++ one ∷ ys)
names_with one [] ys differ apart = (apart, differ)
names_with one (x ∷ xs) ys differ apart =
    let all = all_at (λ (other : Found). other.create.name ≢ x.create.name) xs ys differ.0 in (
      all_append (λ (other : Found). other.create.name ≢ x.create.name) xs (one ∷ ys) all.0 (λ same. apart.0 (sym same), all.1),
      names_with one xs ys differ.1 apart.1,
    )

-- ---- the new row

each_padded : (columns : List Name) → AllZip IsPadded columns columns
each_padded [] = tt
each_padded (name ∷ columns) = (record { before = 0; after = 0; whole = sym (append-nil name) }, each_padded columns)

written_spells : (create : Create) → IsPlain create → Spells (written create) create
written_spells create plain = record {
  plain = plain;
  inside = join_with_byte 44 create.columns;
  parts = record { before = 0; after = 0; whole = refl };
  columned = record { pieces = create.columns; whole = refl; padded = each_padded create.columns };
}

abbrev pub new_table : Name → List Name → ℕ → Found
new_table name columns number = record { root = number; create = record { name = name; columns = columns } }

abbrev pub entry_more : Name → List Name → ℕ → List Value
entry_more name columns number = Text name ∷ Text name ∷ Int (pos number) ∷ Text (written (record { name = name; columns = columns })) ∷ []

abbrev pub entry_values : Name → List Name → ℕ → List Value
entry_values name columns number = Text (codes "table") ∷ entry_more name columns number

pub entry_plain : (size : ℕ) (schema : List (List Value)) (name : Name) (columns : List Name) (number : ℕ) → IsPlain (record { name = name; columns = columns }) → 2 ≤ number → number ≤ size
    → AllByRecursion (λ other. ¬ (IsOn other name)) schema → IsPlainRow size schema (entry_values name columns number) (new_table name columns number)
entry_plain size schema name columns number plain least most alone = record {
  sql = written (record { name = name; columns = columns });
  values_are = refl;
  least = least;
  most = most;
  spelled = written_spells (record { name = name; columns = columns }) plain;
  alone = alone;
}

abbrev root_in : List Value → ℤ
root_in (kind ∷ name ∷ table ∷ Int root ∷ more) = root
root_in _ = pos 0

pub entry_within : (size : ℕ) (name : Name) (columns : List Name) (number : ℕ) → number ≤ size → HasRootWithin size (entry_values name columns number)
entry_within size name columns number most = record {
  within = λ n t x root is. let same : pos number ≡ root = ap root_in is in subst (λ z. z ≤ℤ pos size) same (grind (arith, most));
}

pub entry_five : (name : Name) (columns : List Name) (number : ℕ) → IsSchemaRow (entry_values name columns number)
entry_five name columns number = record { five = refl; kind = codes "table"; more = entry_more name columns number; typed = refl }

-- a row with this rowid and payload, wherever it stands
abbrev pub any_row : ℤ → List ℕ → Stored
any_row key payload = record { cell = record { rowid = key; payload_len = 0; local = []; overflow = 0 }; chain = []; payload = payload }
