-- The row of the schema that makes the plain table of a name.
use Rattle.std.proofs.Common.{◌≡◌, ℕ, zero, suc, ◌+◌, ◌<◌, ℤ, Bool, true, false, cond, List, [], ◌∷◌, ◌++◌, length, map, take, drop, get_or, codes, Option, Some, None, IsTrue, refl, sym, ap, ap₂, subst, ◌∙◌, arith, true≢false}
use Rattle.std.specs.Prelude.{option_map}
use Rattle.std.specs.List.{flat_map, AllByRecursion, AllZip}
use Rattle.std.specs.Str.{str_eq_ignore_ascii_case}
use Rattle.std.specs.Ordering.{nat_cmp}
use Rattle.std.specs.Cmp.Lexicographic.{slice_cmp}
use Rattle.std.specs.FinMap as map
use Rattle.std.specs.FinMap.{FinMap, nat_cmp-IsAntisymmetric, slice_cmp-IsAntisymmetric}
use Rattle.std.proofs.lemmas.Cmp.{nat_list_cmp_total}
use Rattle.std.proofs.lemmas.List.{take_more}
use Rattle.page_list.specs.Pages.{Pages}
use Rattle.db_format.specs.Schema.{Table as Found, IsPlainRow, IsTableOf, tables_in}
use Rattle.db_format.specs.Plain.{plain_of, by_name, MakesPlain, ArePlainTables}
use Rattle.db_format.specs.declared.plain.PlainTable.{PlainTable}
use Rattle.db_format.specs.declared.value.Value.{Value}
use Rattle.db_format.specs.declared.value.Value.TheVariants.{Text}
use Rattle.book_model.specs.Book.{Name, taken_by}
use Rattle.book_model.specs.Pages.{foreign_in, once}
use Rattle.book_reads.specs.Reads.{Says, IsEntry, plain_named}
use Rattle.book_reads.proofs.SchemaLemmas.{no_entries}
use Rattle.book_reads.proofs.NameLemmas.{tables_of, all_entries}
use Rattle.book_reads.proofs.TableLemmas.{named}
use Rattle.table_store.specs.declared.drops.Entry.{Entry}
use Rattle.table_store.specs.Steps.{IsSchema}
use Rattle.table_store.specs.Dropped.{FindsEntry}
use Rattle.table_store.specs.DropSteps.{MakesNone, MakesNamed, MakesAt, IsFirstAt, MayBeEntryOf, FindsEntryIn, FindsNoEntry, MayFindEntry}

same_Some : {A : Type 0} (a b : A) → Some a ≡ Some b → a ≡ b
same_Some a b e = cc

no_Some : {A : Type 0} (a : A) → ¬ (None ≡ Some a)
no_Some a e = cc

-- ---- a row makes a plain table, or none

same_parts : (a b : Name) {x y : Value} {u v : List Value} → Text (codes "table") ∷ Text a ∷ x ∷ u ≡ Text (codes "table") ∷ Text b ∷ y ∷ v → a ≡ b
same_parts a b e = cc

-- what a row makes, by name
pub makes_none : (size : ℕ) (rows : List (List Value)) (values : List Value) (name : Name) → MakesPlain size rows values None → MakesNone size rows name values
makes_none size rows values name makes = by makes.table makes.makes makes.found_is
  where
    by : (table : Option Found) → IsTableOf size rows values table → None ≡ option_map plain_of table → MakesNone size rows name values
    by None none e = λ other row. absurd (none other row)
    by (Some table) is e = absurd (no_Some (plain_of table) e)

pub makes_some : (size : ℕ) (rows : List (List Value)) (values : List Value) (name : Name) (found : PlainTable) (answer : Bool) → MakesPlain size rows values (Some found) → (IsTrue answer → found.name ≡ name)
    → (found.name ≡ name → IsTrue answer) → MakesNamed size rows name values answer
makes_some size rows values name found answer makes is_so is_back = by makes.table makes.makes makes.found_is
  where
    told : (table : Found) → IsPlainRow size rows values table → found.name ≡ table.create.name → (a : Bool) → answer ≡ a → MakesNamed size rows name values a
    told table row called true is = (table, row, sym called ∙ is_so is)
    told table row called false is = λ other o same. true≢false (sym (is_back (called ∙ sym (same_parts other.create.name table.create.name (sym o.values_are ∙ row.values_are)) ∙ same)) ∙ is)

    by : (table : Option Found) → IsTableOf size rows values table → Some found ≡ option_map plain_of table → MakesNamed size rows name values answer
    by None none e = absurd (no_Some found (sym e))
    by (Some table) row e = told table row (ap (λ (t : PlainTable). t.name) (same_Some found (plain_of table) e)) answer refl

pub makes_at : (size : ℕ) (rows : List (List Value)) (values shown : List Value) (name : Name) (place : ℕ) (answer : Bool) → values ≡ get_or rows place values → shown ≡ values → MakesNamed size rows name shown answer
    → MakesAt size rows name place answer
makes_at size rows values shown name place answer there same makes =
    let M : List Value → Type 0 = λ v. MakesNamed size rows name v answer in record { values = values; is_there = there; makes = subst M same makes }

-- ---- a table that is found is made by a row

pub record MakesOne (size : ℕ) (rows : List (List Value)) (table : PlainTable) : Type 0 where
  pub place : ℕ
  pub within : place < length rows
  pub values : List Value
  pub is_there : values ≡ get_or rows place values
  pub one : Found
  pub makes : IsPlainRow size rows values one
  pub is : table ≡ plain_of one

-- the rows of a schema from a place on
record From (schema rows : List (List Value)) : Type 0 where
  at : ℕ
  each : (place : ℕ) (values : List Value) → place < length rows → values ≡ get_or rows place values → (at + place < length schema) × (values ≡ get_or schema (at + place) values)

from_all : (rows : List (List Value)) → From rows rows
from_all rows = record {
  at = 0;
  each = λ place values within is.
      let on : place ≡ 0 + place = omega arith in
      let P : ℕ → Type 0 = λ n. (n < length rows) × (values ≡ get_or rows n values) in
      subst P on (within, is);
}

later : (schema : List (List Value)) (row : List Value) (rows : List (List Value)) → From schema (row ∷ rows) → From schema rows
later schema row rows from = record {
  at = from.at + 1;
  each = λ place values within is.
      let there = from.each (suc place) values (omega (arith, within)) is in
      let on : from.at + suc place ≡ from.at + 1 + place = omega arith in
      let P : ℕ → Type 0 = λ n. (n < length schema) × (values ≡ get_or schema n values) in
      subst P on there;
}

each_made : (size : ℕ) (schema rows : List (List Value)) (found : List (Option Found)) → From schema rows → AllZip (IsTableOf size schema) rows found
    → AllByRecursion (λ (e : Name × PlainTable). MakesOne size schema e.1) (named (tables_in found))
each_made size schema [] [] from each = tt
each_made size schema [] (f ∷ found) from each = absurd each
each_made size schema (row ∷ rows) [] from each = absurd each
each_made size schema (row ∷ rows) (None ∷ found) from each = each_made size schema rows found (later schema row rows from) each.1
each_made size schema (row ∷ rows) (Some one ∷ found) from each =
    let there = from.each 0 row (omega arith) refl in
    (record { place = from.at + 0; within = there.0; values = row; is_there = there.1; one = one; makes = each.0; is = refl }, each_made size schema rows found (later schema row rows from) each.1)

found_has : (P : PlainTable → Type 0) (es : List (Name × PlainTable)) (name : Name) (table : PlainTable) → AllByRecursion (λ (e : Name × PlainTable). P e.1) es → plain_named (tables_of es) name ≡ Some table → P table
found_has P [] name table each is = absurd (no_Some table is)
found_has P (e ∷ es) name table each is = by (λ rest. found_has P es name table each.1 rest) (str_eq_ignore_ascii_case name e.1.name) is
  where
    by : (plain_named (tables_of es) name ≡ Some table → P table) → (b : Bool) → cond b (Some e.1) (plain_named (tables_of es) name) ≡ Some table → P table
    by rest true here = subst P (same_Some e.1 table here) each.0
    by rest false there = rest there

pub table_made : (size : ℕ) (rows : List (List Value)) (plain : List PlainTable) (name : Name) (table : PlainTable) → ArePlainTables size rows plain → plain_named plain name ≡ Some table → MakesOne size rows table
table_made size rows plain name table are finds =
    let all : FinMap (slice_cmp nat_cmp) PlainTable = by_name (tables_in are.found) in
    let each = all_entries (slice_cmp nat_cmp) nat_list_cmp_total (slice_cmp-IsAntisymmetric nat_cmp-IsAntisymmetric) (λ (e : Name × PlainTable). MakesOne size rows e.1) (named (tables_in are.found))
    (no_entries (slice_cmp nat_cmp) PlainTable) (each_made size rows rows are.found (from_all rows) are.each) in
    found_has (MakesOne size rows) (map.entries all) name table each (sym (ap (λ (l : List PlainTable). plain_named l name) are.plain_are) ∙ finds)

-- ---- the first row that makes it

all_get : {A : Type 0} (P : A → Type 0) (xs : List A) (place : ℕ) (x : A) → AllByRecursion P xs → place < length xs → x ≡ get_or xs place x → P x
all_get P [] place x all within is = absurd (omega (arith, within))
all_get P (y ∷ xs) zero x all within is = subst P (sym is) all.0
all_get P (y ∷ xs) (suc place) x all within is = all_get P xs place x all.1 (omega (arith, within)) is

all_push : {A : Type 0} (P : A → Type 0) (xs : List A) (x : A) → AllByRecursion P xs → P x → AllByRecursion P (xs ++ x ∷ [])
all_push P [] x all here = (here, tt)
all_push P (y ∷ xs) x all here = (all.0, all_push P xs x all.1 here)

pub made_same : (size : ℕ) (rows rows' : List (List Value)) (name name' : Name) (place : ℕ) (answer answer' : Bool) → rows' ≡ rows → name' ≡ name → answer' ≡ answer → MakesAt size rows' name' place answer'
    → MakesAt size rows name place answer
made_same size rows rows' name name' place answer answer' p q r m =
    let M : List (List Value) → Name → Bool → Type 0 = λ l n a. MakesAt size l n place a in
    subst (M rows name) r (subst (λ (n : Name). M rows n answer') q (subst (λ (l : List (List Value)). M l name' answer') p m))

-- one row more makes none
pub none_more : (size : ℕ) (rows : List (List Value)) (name : Name) (place : ℕ) → place < length rows → AllByRecursion (MakesNone size rows name) (take place rows) → MakesAt size rows name place false
    → AllByRecursion (MakesNone size rows name) (take (place + 1) rows)
none_more size rows name place within none here =
    let Q : List (List Value) → Type 0 = AllByRecursion (MakesNone size rows name) in
    let is : take place rows ++ here.values ∷ [] ≡ take (place + 1) rows =
    ap (λ (r : List Value). take place rows ++ r ∷ []) here.is_there ∙ sym (take_more rows place here.values within) in
    subst Q is (all_push (MakesNone size rows name) (take place rows) here.values none here.makes)

-- so a table that is found has such a row
not_none : (size : ℕ) (rows : List (List Value)) (table : PlainTable) → MakesOne size rows table → ¬ (AllByRecursion (MakesNone size rows table.name) rows)
not_none size rows table m none = all_get (MakesNone size rows table.name) rows m.place m.values none m.within m.is_there m.one m.makes (sym (ap (λ (t : PlainTable). t.name) m.is))

pub may_find : (size : ℕ) (rowids : List ℤ) (rows : List (List Value)) (plain : List PlainTable) (name : Name) (table : PlainTable) (entry : Option Entry) → ArePlainTables size rows plain
    → plain_named plain name ≡ Some table → MayBeEntryOf size rowids rows table entry → MayFindEntry size rowids rows name entry
may_find size rowids rows plain name table None are finds none = absurd (not_none size rows table (table_made size rows plain name table are finds) none)
may_find size rowids rows plain name table (Some entry) are finds is =
    let m = table_made size rows plain name table are finds in
    let root : entry.root ≡ m.one.root = is.rooted ∙ ap (λ (t : PlainTable). t.root) m.is in
    record {
      plain = plain;
      foreign = once (foreign_in rows are.found);
      taken = flat_map taken_by rows;
      says = record { found = are.found; each = are.each; plain_are = are.plain_are; foreign_are = refl; taken_are = refl };
      table = table;
      finds = finds;
      is = is;
      least = omega (arith, root, m.makes.least);
      most = omega (arith, root, m.makes.most);
    }

-- where none is found
pub no_entry : (size : ℕ) (rowids : List ℤ) (rows : List (List Value)) (name : Name) (entry : Option Entry) → ((e : Entry) → ¬ (entry ≡ Some e)) → MayFindEntry size rowids rows name entry → FindsNoEntry size rows name
no_entry size rowids rows name None none is = is
no_entry size rowids rows name (Some e) none is = absurd (none e refl)

-- ---- among the rows with their rowids

split_at : (items : List (ℤ × List Value)) (place : ℕ) (rowid : ℤ) (values : List Value) → place < length items → rowid ≡ get_or (map (λ row. row.0) items) place rowid
    → values ≡ get_or (map (λ row. row.1) items) place values → items ≡ take place items ++ (rowid, values) ∷ drop (suc place) items
split_at [] place rowid values within p q = absurd (omega (arith, within))
split_at (item ∷ items) zero rowid values within p q = ap₂ (λ (r : ℤ) (v : List Value). (r, v) ∷ items) (sym p) (sym q)
split_at (item ∷ items) (suc place) rowid values within p q = ap (λ (l : List (ℤ × List Value)). item ∷ l) (split_at items place rowid values (omega (arith, within)) p q)

as_many : (items : List (ℤ × List Value)) → length (map (λ (row : ℤ × List Value). row.1) items) ≡ length items
as_many [] = refl
as_many (item ∷ items) = ap suc (as_many items)

none_before : (P : List Value → Type 0) (items : List (ℤ × List Value)) (place : ℕ) → AllByRecursion P (take place (map (λ row. row.1) items)) → AllByRecursion (λ row. P row.1) (take place items)
none_before P items zero all = tt
none_before P [] (suc place) all = tt
none_before P (item ∷ items) (suc place) all = (all.0, none_before P items place all.1)

is_entry : (size : ℕ) (items : List (ℤ × List Value)) (name : Name) (place : ℕ) (rowid : ℤ) → rowid ≡ get_or (map (λ row. row.0) items) place rowid → IsFirstAt size (map (λ row. row.1) items) name place
    → IsEntry size items name rowid
is_entry size items name place rowid is f = record {
  before = take place items;
  values = f.makes.values;
  behind = drop (suc place) items;
  split = split_at items place rowid f.makes.values (omega (arith, f.within, as_many items)) is f.makes.is_there;
  table = f.makes.makes.0;
  makes = f.makes.makes.1;
  named = f.makes.makes.2;
  first = none_before (MakesNone size (map (λ row. row.1) items) name) items place f.first;
}

pub finds_entry : (pages : Pages) (rowids : List ℤ) (rows : List (List Value)) (name : Name) (entry : Entry) → IsSchema pages rowids rows → FindsEntryIn pages.size rowids rows name entry
    → FindsEntry pages name entry.root entry.rowid
finds_entry pages rowids rows name entry schema f =
    let P : List (List Value) → Type 0 = λ l. Says pages.size l f.plain f.foreign f.taken in
    let K : List ℤ → Type 0 = λ l. entry.rowid ≡ get_or l f.is.place entry.rowid in
    let F : List (List Value) → Type 0 = λ l. IsFirstAt pages.size l f.table.name f.is.place in
    record {
      table = f.table;
      finds = record { plain = f.plain; foreign = f.foreign; taken = f.taken; says = record { rows = schema.items; has = schema.has; says = subst P schema.rows_are f.says }; finds = f.finds };
      rooted = f.is.rooted;
      rows = schema.items;
      has = schema.has;
      is_entry = is_entry pages.size schema.items f.table.name f.is.place entry.rowid (subst K schema.rowids_are f.is.rowid_is) (subst F schema.rows_are f.is.first);
    }
