-- What calls on tables read of pages of any bytes, and why they are refused.
-- After sqlite.org, "Database File Format", section 2.6, "Storage Of The SQL Database Schema".
use Rattle.std.specs.Prelude.{◌≡◌, ◌⊎◌, ℕ, ℤ, ◌≤ℤ◌, false, IsTrue, List, [], length, Option, Some, None}
use Rattle.db_format.specs.declared.value.Value.{Value}
use Rattle.db_format.specs.declared.plain.PlainTable.{PlainTable}
use Rattle.page_list.specs.Pages.{Pages}
use Rattle.page_pool.specs.Space.{SpaceState}
use Rattle.tree_model.specs.Whole.{greatest}
use Rattle.tree_model.specs.declared.ends.Fault.{Fault}
use Rattle.tree_model.specs.declared.ends.PathEnd.TheVariants.{Ends}
use Rattle.tree_model.specs.declared.ends.WalkEnd.TheVariants.{End, StopsAt}
use Rattle.tree_model.specs.Walk.{Path}
use Rattle.tree_search.specs.Search.{SearchRefused}
use Rattle.book_model.specs.Book.{Name}
use Rattle.book_reads.specs.Reads.{least, ReadsRows, ReadsNext, HasRowOf, SchemaMeets, SchemaSays, plain_named, is_named}
use Rattle.table_store.specs.declared.fault.TableFault.{TableFault}
use Rattle.table_store.specs.declared.fault.TableFault.TheVariants.{NoTable, Foreign, Exists, Columns, TooLong, Space}

-- ---- names

-- a name finds a plain table in the schema of the pages
pub record Finds (pages : Pages) (name : Name) (table : PlainTable) : Type 0 where
  pub plain : List PlainTable
  pub foreign : List Name
  pub taken : List Name
  pub says : SchemaSays pages plain foreign taken
  pub finds : plain_named plain name ≡ Some table

-- it finds none, and the name of a foreign one; or it finds nothing
pub record FindsForeign (pages : Pages) (name : Name) : Type 0 where
  pub plain : List PlainTable
  pub foreign : List Name
  pub taken : List Name
  pub says : SchemaSays pages plain foreign taken
  pub none : plain_named plain name ≡ None
  pub named : IsTrue (is_named foreign name)

pub record FindsNothing (pages : Pages) (name : Name) : Type 0 where
  pub plain : List PlainTable
  pub foreign : List Name
  pub taken : List Name
  pub says : SchemaSays pages plain foreign taken
  pub none : plain_named plain name ≡ None
  pub unnamed : is_named foreign name ≡ false

-- ---- refusals

-- a fault of the schema, or, where a name finds a table, one that is met in it
pub record InTable (pages : Pages) (name : Name) (AtFault : PlainTable → Fault → Type 0) (fault : Fault) : Type 0 where
  pub table : PlainTable
  pub found : Finds pages name table
  pub met : AtFault table fault

abbrev pub ReadMeets : Pages → Name → (PlainTable → Fault → Type 0) → Fault → Type 0
ReadMeets pages name AtFault fault = SchemaMeets pages fault ⊎ InTable pages name AtFault fault

-- why a read of a table is refused
abbrev pub ReadRefused : SpaceState → SpaceState → Name → (PlainTable → Fault → Type 0) → TableFault → Type 0
ReadRefused old new name AtFault NoTable = IsTrue old.tells → FindsNothing old.pages name
ReadRefused old new name AtFault Foreign = IsTrue old.tells → FindsForeign old.pages name
ReadRefused old new name AtFault Exists = ⊥
ReadRefused old new name AtFault Columns = ⊥
ReadRefused old new name AtFault TooLong = ⊥
ReadRefused old new name AtFault (Space fault) = SearchRefused old new (ReadMeets old.pages name AtFault) fault

-- ---- reads

abbrev pub columns_of : PlainTable → ℕ
columns_of table = length table.create.columns

-- the row of a rowid, or that there is none; the fault that is met on the way to it
pub record GetsRow (pages : Pages) (name : Name) (rowid : ℤ) (found : Option (List Value)) : Type 0 where
  pub table : PlainTable
  pub finds : Finds pages name table
  pub row : HasRowOf (columns_of table) pages table.root rowid found

abbrev pub RowMeets : Pages → ℤ → PlainTable → Fault → Type 0
RowMeets pages rowid table fault = Path (Some (columns_of table)) pages table.root rowid (Ends fault)

-- the first row between two rowids, or that there is none; the fault that is met before it
abbrev pub NextOf : ℕ → Pages → ℕ → ℤ → ℤ → Option (ℤ × List Value) → Type 0
NextOf columns pages root low high None = ReadsRows columns pages root low high [] End
NextOf columns pages root low high (Some row) = (low ≤ℤ high) × ReadsNext columns pages root high low row

pub record ScansNext (pages : Pages) (name : Name) (low high : ℤ) (found : Option (ℤ × List Value)) : Type 0 where
  pub table : PlainTable
  pub finds : Finds pages name table
  pub next : NextOf (columns_of table) pages table.root low high found

abbrev pub NextMeets : Pages → ℤ → ℤ → PlainTable → Fault → Type 0
NextMeets pages low high table fault = ReadsRows (columns_of table) pages table.root low high [] (StopsAt fault)

-- how many rows a walk over all rowids gives; the fault at which it stops
pub record Counts (pages : Pages) (name : Name) (count : ℕ) : Type 0 where
  pub table : PlainTable
  pub finds : Finds pages name table
  pub rows : List (ℤ × List Value)
  pub walk : ReadsRows (columns_of table) pages table.root least greatest rows End
  pub counted : count ≡ length rows

abbrev pub CountMeets : Pages → PlainTable → Fault → Type 0
CountMeets pages table fault = (rows : List (ℤ × List Value)) × ReadsRows (columns_of table) pages table.root least greatest rows (StopsAt fault)
