-- The book of whole pages.
use Rattle.std.specs.Prelude.{◌≡◌, ◌⊎◌, ℕ, ℤ, ◌-◌, not, if◌then◌else◌, List, [], ◌∷◌, ◌++◌, length, map, reverse, replicate, filter, codes, bytes_eq, Option, Some, None}
use Rattle.std.specs.List.{AllZip}
use Rattle.std.specs.Ordering.{int_cmp}
use Rattle.std.specs.Str.{str_eq_ignore_ascii_case}
use Rattle.std.specs.FinMap as map
use Rattle.std.specs.FinMap.{FinMap}
use Rattle.page_list.specs.Pages.{Pages, word}
use Rattle.page_list.specs.Freelist.{Trunk, free_pages}
use Rattle.db_format.specs.Header.{page_of}
use Rattle.db_format.specs.Record.{IsRecord}
use Rattle.db_format.specs.Schema.{Table as Found, tables_in}
use Rattle.db_format.specs.declared.value.Value.{Value}
use Rattle.db_format.specs.declared.value.Value.TheVariants.{Null, Text}
use Rattle.tree_model.specs.Tree.{Row as Stored, Tree, rowid, rows_of}
use Rattle.tree_model.specs.Whole.{named_pages}
use Rattle.tree_model.specs.Database.{IsWholeDatabase}
use Rattle.tree_laws.specs.Whole.{missing_in}
use Rattle.book_model.specs.Book.{Name, Row, Table, Book, empty_book}

-- values filled up with nulls to so many columns
abbrev pub filled : ℕ → List Value → List Value
filled columns values = values ++ replicate (columns - length values) Null

-- the rows of a tree by rowid
abbrev pub entries_of : ℕ → List Stored → List (List Value) → List (ℤ × Row)
entries_of columns [] contents = []
entries_of columns (row ∷ rows) [] = []
entries_of columns (row ∷ rows) (values ∷ contents) = (rowid row, record { values = filled columns values; size = length row.payload }) ∷ entries_of columns rows contents

-- the map has the rows of a tree, each of them with the values that its payload is a record of
pub record HasRows (columns : ℕ) (stored : List Stored) (rows : FinMap int_cmp Row) : Type 0 where
  pub contents : List (List Value)
  pub each : AllZip (λ row values. IsRecord row.payload values) stored contents
  pub is : rows ≡ map.from_entries (entries_of columns stored contents)

-- the plain table that a row of the schema makes, whose rows are in this tree
pub record IsTable (entry : Stored) (found : Found) (tree : Tree) (name : Name) (table : Table) : Type 0 where
  pub named : name ≡ found.create.name
  pub columns : table.columns ≡ found.create.columns
  pub entry_is : table.entry ≡ rowid entry
  pub rows : HasRows (length found.create.columns) (rows_of tree) table.rows

-- the plain tables by name, as the rows of the schema make them
abbrev pub AreTables : List Stored → List (Option Found) → List Tree → List (Name × Table) → Type 0
AreTables [] [] [] [] = Unit {0}
AreTables (entry ∷ entries) (None ∷ found) trees tables = AreTables entries found trees tables
AreTables (entry ∷ entries) (Some one ∷ found) (tree ∷ trees) ((name, table) ∷ tables) = IsTable entry one tree name table × AreTables entries found trees tables
AreTables _ _ _ _ = ⊥

-- the name of a table that a row of the schema makes, plain or not
abbrev pub table_named : List Value → List Name
table_named (Text kind ∷ Text name ∷ more) = if bytes_eq kind (codes "table") then name ∷ [] else []
table_named _ = []

-- the names of those that are not plain
abbrev pub foreign_in : List (List Value) → List (Option Found) → List Name
foreign_in (values ∷ rows) (None ∷ found) = table_named values ++ foreign_in rows found
foreign_in (values ∷ rows) (Some one ∷ found) = foreign_in rows found
foreign_in _ _ = []

-- each name once, as it stands first, letters of either case being the same
abbrev pub once : List Name → List Name
once [] = []
once (name ∷ more) = name ∷ filter (λ other. not (str_eq_ignore_ascii_case name other)) (once more)

-- the pages hold these tables, and what else a book says
pub record IsBookOf (pages : Pages) (book : Book) : Type 0 where
  pub schema : Tree
  pub rows : List (List Value)
  pub found : List (Option Found)
  pub trees : List Tree
  pub trunks : List Trunk
  pub whole : IsWholeDatabase pages schema rows found trees trunks
  pub tables : List (Name × Table)
  pub each : AreTables (rows_of schema) found trees tables
  pub tables_are : book.tables ≡ map.from_entries tables
  pub foreign_are : book.foreign ≡ once (foreign_in rows found)
  pub schema_is : HasRows 5 (rows_of schema) book.schema
  pub unnamed_are : book.unnamed ≡ map (λ n. (n, pages.bytes n)) (reverse (missing_in (named_pages (1 ∷ map (λ table. table.root) (tables_in found)) (schema ∷ trees) trunks) pages.size))
  pub counter_is : book.counter ≡ word pages 1 24
  pub pages_are : book.pages ≡ pages.size
  pub free_are : book.free ≡ length (free_pages trunks)
  pub page_is : book.page ≡ page_of (pages.bytes 1)
  pub usable_is : book.usable ≡ pages.usable

-- the book of whole pages; without a page the page size is that of the space
abbrev pub IsBook : ℕ → Pages → Book → Type 0
IsBook page_size pages book = ((pages.size ≡ 0) × (book ≡ empty_book page_size pages.usable)) ⊎ IsBookOf pages book
