-- A book: what a database holds, as maps and numbers.
use Rattle.std.specs.Prelude.{ℕ, ℤ, pos, ◌+◌, ◌-◌, ◌+ℤ◌, ◌-ℤ◌, ◌≤◌, max, Bool, false, ◌||◌, not, if◌then◌else◌, List, [], ◌∷◌, ◌++◌, length, map, filter, reverse, codes, bytes_eq, Option, unwrap_or, is_some}
use Rattle.std.specs.List.{flat_map, list_any, sum_by}
use Rattle.std.specs.Ordering.{nat_cmp, int_cmp, is_eq}
use Rattle.std.specs.Cmp.Lexicographic.{slice_cmp}
use Rattle.std.specs.Str.{str_eq_ignore_ascii_case}
use Rattle.std.specs.FinMap as map
use Rattle.std.specs.FinMap.{FinMap}
use Rattle.db_format.specs.Create.{written}
use Rattle.db_format.specs.declared.value.Value.{Value}
use Rattle.db_format.specs.declared.value.Value.TheVariants.{Int, Text}
use Rattle.tree_model.specs.Need.{need_of_rows}
use Rattle.tree_model.specs.Whole.{greatest}
use Rattle.book_model.specs.Size.{record_size}

-- a name of a table or a column
abbrev pub Name : Type 0
Name = List ℕ

-- a row: its values, and how many bytes its payload takes where it is stored
pub record Row : Type 0 where
  pub values : List Value
  pub size : ℕ

-- a plain table: its columns, the rowid of its row in the schema, and its rows, each filled up with nulls
pub record Table : Type 0 where
  pub columns : List Name
  pub entry : ℤ
  pub rows : FinMap int_cmp Row

-- what a database holds
pub record Book : Type 0 where
  -- the plain tables
  pub tables : FinMap (slice_cmp nat_cmp) Table
  -- the names of the other tables, each once, as the first row of the schema spells it that has it
  pub foreign : List Name
  -- the rows of the schema
  pub schema : FinMap int_cmp Row
  -- the pages that nothing names, in rising order, with their bytes
  pub unnamed : List (ℕ × List ℕ)
  -- how often the database was changed
  pub counter : ℕ
  pub pages : ℕ
  pub free : ℕ
  -- the page size, and how much of a page holds content
  pub page : ℕ
  pub usable : ℕ

-- a database of no pages
abbrev pub empty_book : ℕ → ℕ → Book
empty_book page usable = record {
  tables = map.empty;
  foreign = [];
  schema = map.empty;
  unnamed = [];
  counter = 0;
  pages = 0;
  free = 0;
  page = page;
  usable = usable;
}

-- ---- names

-- the plain table of a name, where there is one
abbrev pub table_of : Book → Name → Option Table
table_of book name = map.get book.tables name

-- the same, and a table without columns and rows where there is none
abbrev pub table_at : Book → Name → Table
table_at book name = unwrap_or (table_of book name) (record { columns = []; entry = pos 0; rows = map.empty })

abbrev pub is_plain : Book → Name → Bool
is_plain book name = is_some (table_of book name)

-- the names of the foreign tables: one that is plain too, in letters of either case, counts as plain alone
abbrev pub foreign_names : Book → List Name
foreign_names book = filter (λ name. not (list_any (str_eq_ignore_ascii_case name) (map.keys book.tables))) book.foreign

abbrev pub is_foreign : Book → Name → Bool
is_foreign book name = list_any (str_eq_ignore_ascii_case name) (foreign_names book)

abbrev pub text_in : Value → List Name
text_in (Text bytes) = bytes ∷ []
text_in _ = []

-- the rows of an index or a trigger stand on a table
abbrev pub is_on_table : Value → Bool
is_on_table (Text kind) = bytes_eq kind (codes "index") || bytes_eq kind (codes "trigger")
is_on_table _ = false

-- the names that a row of the schema takes: its own, and that of the table which it is on
abbrev pub taken_by : List Value → List Name
taken_by (kind ∷ name ∷ table ∷ more) = text_in name ++ (if is_on_table kind then text_in table else [])
taken_by _ = []

abbrev pub taken : Book → List Name
taken book = flat_map (λ row. taken_by row.values) (map.values book.schema)

-- whether a new table may not have the name
abbrev pub is_taken : Book → Name → Bool
is_taken book name = list_any (str_eq_ignore_ascii_case name) (taken book)

-- ---- changes

-- a row as it is written
abbrev pub written_row : List Value → Row
written_row values = record { values = values; size = record_size values }

-- the greatest number up to one that is not among these, which fall
abbrev pub free_below : ℤ → List ℤ → ℤ
free_below z [] = z
free_below z (key ∷ more) = if is_eq (int_cmp key z) then free_below (z -ℤ pos 1) more else z

-- the rowid of a new row of the schema: one more than the greatest, which is the last of these in falling order; where that is the
-- greatest that there can be, the greatest that is not in use
abbrev pub next_of : List ℤ → ℤ
next_of [] = pos 1
next_of (key ∷ more) = if is_eq (int_cmp key greatest) then free_below greatest (key ∷ more) else key +ℤ pos 1

abbrev pub next_entry : Book → ℤ
next_entry book = next_of (reverse (map.keys book.schema))

-- the row of the schema for a table with its root on a page
abbrev pub entry_row : Name → List Name → ℕ → Row
entry_row name columns root = written_row (Text (codes "table") ∷ Text name ∷ Text name ∷ Int (pos root) ∷ Text (written (record { name = name; columns = columns })) ∷ [])

-- the book with an empty table more
abbrev pub with_table : Book → Name → List Name → ℕ → Book
with_table book name columns root = record book {
  tables = map.insert book.tables name (record { columns = columns; entry = next_entry book; rows = map.empty });
  schema = map.insert book.schema (next_entry book) (entry_row name columns root);
}

-- without the plain table of a name
abbrev pub without_table : Book → Name → Book
without_table book name = record book { tables = map.remove book.tables name; schema = map.remove book.schema (table_at book name).entry }

-- with these rows in the table of a name
abbrev pub with_rows : Book → Name → FinMap int_cmp Row → Book
with_rows book name rows = record book { tables = map.insert book.tables name (record (table_at book name) { rows = rows }) }

-- with a row put, and with a row taken out
abbrev pub with_row : Book → Name → ℤ → List Value → Book
with_row book name rowid values = with_rows book name (map.insert (table_at book name).rows rowid (written_row values))

abbrev pub without_row : Book → Name → ℤ → Book
without_row book name rowid = with_rows book name (map.remove (table_at book name).rows rowid)

abbrev pub has_row : Book → Name → ℤ → Bool
has_row book name rowid = map.contains_key (table_at book name).rows rowid

-- ---- numbers of pages

-- the pages in use: those of the trees of the schema and of the plain tables
abbrev pub use_of : Book → ℕ
use_of book = book.pages - book.free - length book.unnamed

-- the most pages that these trees may take: two a row, at least two, and the chains of the payloads
abbrev pub need_of_map : ℕ → FinMap int_cmp Row → ℕ
need_of_map usable rows = need_of_rows usable (map (λ row. row.size) (map.values rows))

unfoldable pub need_of : Book → ℕ
need_of book = need_of_map book.usable book.schema + sum_by (λ table. need_of_map book.usable table.rows) (map.values book.tables)

-- what a change may leave of these numbers
pub record IsSized (old new : Book) : Type 0 where
  -- the pages have room for what is free and what nothing names
  pub fits : new.free + length new.unnamed ≤ new.pages
  -- they are no fewer
  pub keeps : old.pages ≤ new.pages
  -- no more are in use than may be needed
  pub needed : use_of new ≤ need_of new
  -- there are no more than before, or than nothing names, were in use and are in use
  pub bounded : new.pages ≤ max old.pages (length old.unnamed + use_of old + use_of new)
