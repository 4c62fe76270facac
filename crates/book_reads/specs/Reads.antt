-- What reads of pages give, whole or not: the rows of a table, the row of a rowid, the rows of the schema and what they say.
-- After sqlite.org, "Database File Format", sections 1.6, "B-tree Pages", 2.1, "Record Format", and 2.6, "Storage Of The SQL Database
-- Schema".
use Rattle.std.specs.Prelude.{◌≡◌, ◌≢◌, ◌⊎◌, ℕ, ◌≤◌, ℤ, negsuc, not, Bool, ◌&&◌, if◌then◌else◌, List, [], ◌∷◌, ◌++◌, map, filter, Option, Some, None, option_map}
use Rattle.std.specs.List.{flat_map, list_any, AllByRecursion, AllZip}
use Rattle.std.specs.Ordering.{nat_cmp, int_cmp, is_le}
use Rattle.std.specs.Cmp.Lexicographic.{slice_cmp}
use Rattle.std.specs.Str.{str_eq_ignore_ascii_case}
use Rattle.std.specs.FinMap as map
use Rattle.std.specs.FinMap.{FinMap}
use Rattle.page_list.specs.Pages.{Pages}
use Rattle.db_format.specs.Record.{IsRecord}
use Rattle.db_format.specs.Schema.{Table as Found, IsPlainRow, IsTableOf, tables_in}
use Rattle.db_format.specs.Plain.{by_name}
use Rattle.db_format.specs.declared.plain.PlainTable.{PlainTable}
use Rattle.db_format.specs.declared.table_list.TableEntry.{TableEntry}
use Rattle.db_format.specs.declared.table_list.TableEntry.TheVariants.{Plain, Foreign}
use Rattle.db_format.specs.declared.value.Value.{Value}
use Rattle.tree_model.specs.Whole.{greatest}
use Rattle.tree_model.specs.declared.ends.Fault.{Fault}
use Rattle.tree_model.specs.declared.ends.PathEnd.TheVariants.{HasPayload, NoRow}
use Rattle.tree_model.specs.declared.ends.WalkEnd.{WalkEnd}
use Rattle.tree_model.specs.declared.ends.WalkEnd.TheVariants.{End, StopsAt}
use Rattle.tree_model.specs.Walk.{Path, IsNext, Walk}
use Rattle.book_model.specs.Book.{Name, Row, Table, Book, foreign_names, taken_by}
use Rattle.book_model.specs.Pages.{filled, foreign_in, once}

-- ---- rows

-- the least rowid
abbrev pub least : ℤ
least = negsuc 9223372036854775807

-- a row as it is stored, with the values that its payload is a record of, filled up with nulls to so many columns (section 2.1)
pub record ReadsAs (columns : ℕ) (stored : ℤ × List ℕ) (row : ℤ × List Value) : Type 0 where
  pub keyed : row.0 ≡ stored.0
  pub values : List Value
  pub is_record : IsRecord stored.1 values
  pub filled_up : row.1 ≡ filled columns values

-- the rows of a table with so many columns between two rowids, as far as the walk from its root gives them, and how that ends
pub record ReadsRows (columns : ℕ) (pages : Pages) (root : ℕ) (low high : ℤ) (rows : List (ℤ × List Value)) (end : WalkEnd) : Type 0 where
  pub stored : List (ℤ × List ℕ)
  pub walks : Walk (Some columns) pages root low high stored end
  pub each : AllZip (ReadsAs columns) stored rows

-- the first row of a rowid from a key on, where there is one and it can be read
pub record ReadsNext (columns : ℕ) (pages : Pages) (root : ℕ) (high key : ℤ) (row : ℤ × List Value) : Type 0 where
  pub stored : ℤ × List ℕ
  pub next : IsNext (Some columns) pages root high key stored
  pub reads : ReadsAs columns stored row

-- the values of the row of a rowid, where the path to it finds one or none
abbrev pub HasRowOf : ℕ → Pages → ℕ → ℤ → Option (List Value) → Type 0
HasRowOf columns pages root rowid None = Path (Some columns) pages root rowid NoRow
HasRowOf columns pages root rowid (Some values) =
    (payload : List ℕ) × Path (Some columns) pages root rowid (HasPayload payload) × ReadsAs columns (rowid, payload) (rowid, values)

-- ---- the schema (section 2.6)

-- its rows, which have five columns: of no pages there are none
abbrev pub HasSchema : Pages → List (ℤ × List Value) → Type 0
HasSchema pages rows = ((pages.size ≡ 0) × (rows ≡ [])) ⊎ ((1 ≤ pages.size) × ReadsRows 5 pages 1 least greatest rows End)

-- the fault at which the walk over them stops
abbrev pub SchemaMeets : Pages → Fault → Type 0
SchemaMeets pages fault = (1 ≤ pages.size) × ((rows : List (ℤ × List Value)) × ReadsRows 5 pages 1 least greatest rows (StopsAt fault))

-- what the rows of a schema say of a database of so many pages: the plain tables in the byte order of their names, the names of the other
-- tables, each once, and the names that are taken
pub record Says (size : ℕ) (rows : List (List Value)) (plain : List PlainTable) (foreign taken : List Name) : Type 0 where
  pub found : List (Option Found)
  pub each : AllZip (IsTableOf size rows) rows found
  pub plain_are : plain ≡ map.values (by_name (tables_in found))
  pub foreign_are : foreign ≡ once (foreign_in rows found)
  pub taken_are : taken ≡ flat_map taken_by rows

-- the schema of the pages is gone over without a fault, and this is what its rows say
pub record SchemaSays (pages : Pages) (plain : List PlainTable) (foreign taken : List Name) : Type 0 where
  pub rows : List (ℤ × List Value)
  pub has : HasSchema pages rows
  pub says : Says pages.size (map (λ row. row.1) rows) plain foreign taken

-- the rowid of the row of the schema that makes the plain table of a name: of several the first
pub record IsEntry (size : ℕ) (rows : List (ℤ × List Value)) (name : Name) (entry : ℤ) : Type 0 where
  pub before : List (ℤ × List Value)
  pub values : List Value
  pub behind : List (ℤ × List Value)
  pub split : rows ≡ before ++ (entry, values) ∷ behind
  pub table : Found
  pub makes : IsPlainRow size (map (λ row. row.1) rows) values table
  pub named : table.create.name ≡ name
  pub first : AllByRecursion (λ row. (other : Found) → IsPlainRow size (map (λ row. row.1) rows) row.1 other → other.create.name ≢ name) before

-- ---- names, compared without regard to ASCII case

-- the first of plain tables that has a name
abbrev pub plain_named : List PlainTable → Name → Option PlainTable
plain_named [] name = None
plain_named (table ∷ more) name = if str_eq_ignore_ascii_case name table.name then Some table else plain_named more name

-- whether a name is one of these
abbrev pub is_named : List Name → Name → Bool
is_named names name = list_any (str_eq_ignore_ascii_case name) names

-- the names of these that no plain table has
abbrev pub not_plain : List PlainTable → List Name → List Name
not_plain plain names = filter (λ name. not (is_named (map (λ table. table.name) plain) name)) names

-- ---- what a book has

-- a row of a map as it is shown
abbrev pub shown_row : ℤ × Row → ℤ × List Value
shown_row row = (row.0, row.1.values)

-- those between two rowids, both included, in rising order
abbrev pub rows_between : ℤ → ℤ → FinMap int_cmp Row → List (ℤ × List Value)
rows_between low high rows = map (λ row. (row.0, row.1.values)) (filter (λ row. is_le (int_cmp low row.0) && is_le (int_cmp row.0 high)) (map.entries rows))

-- the values of the row of a rowid
abbrev pub values_at : FinMap int_cmp Row → ℤ → Option (List Value)
values_at rows rowid = option_map (λ row. row.values) (map.get rows rowid)

-- a table as its name and its columns: as the schema says it, and as a book has it
abbrev pub said : PlainTable → Name × List Name
said table = (table.name, table.create.columns)

abbrev pub kept : Name × Table → Name × List Name
kept entry = (entry.0, entry.1.columns)

-- the plain tables with their columns and the names of the others, in the byte order of the names
abbrev pub listed : List (Name × List Name) → List Name → List TableEntry
listed plain foreign =
    let tables : List (Name × TableEntry) = map (λ table. (table.0, Plain (record { name = table.0; columns = table.1 }))) plain in
    let others : List (Name × TableEntry) = map (λ name. (name, Foreign name)) foreign in
    let all : FinMap (slice_cmp nat_cmp) TableEntry = map.from_entries (tables ++ others) in
    map.values all

-- those of a book
abbrev pub tables_listed : Book → List TableEntry
tables_listed book =
    let plain : List (Name × TableEntry) = map (λ table. (table.0, Plain (record { name = table.0; columns = table.1.columns }))) (map.entries book.tables) in
    let foreign : List (Name × TableEntry) = map (λ name. (name, Foreign name)) (foreign_names book) in
    let all : FinMap (slice_cmp nat_cmp) TableEntry = map.from_entries (plain ++ foreign) in
    map.values all
