-- Words that only the steps of a drop use: the row of the schema that makes a plain table, by rows that were read.
use Rattle.std.specs.Prelude.{◌≡◌, ◌≢◌, ℕ, ℤ, ◌≤◌, ◌<◌, Bool, true, false, List, length, take, get_or, Option, Some, None}
use Rattle.std.specs.List.{AllByRecursion}
use Rattle.db_format.specs.Schema.{Table as Found, IsPlainRow}
use Rattle.db_format.specs.Plain.{ArePlainTables}
use Rattle.db_format.specs.declared.value.Value.{Value}
use Rattle.db_format.specs.declared.plain.PlainTable.{PlainTable}
use Rattle.book_model.specs.Book.{Name}
use Rattle.book_reads.specs.Reads.{Says, plain_named}
use Rattle.table_store.specs.declared.drops.Entry.{Entry}

-- a row makes a plain table of this name; or it makes none
abbrev pub MakesNone : ℕ → List (List Value) → Name → List Value → Type 0
MakesNone size rows name values = (other : Found) → IsPlainRow size rows values other → other.create.name ≢ name

abbrev pub MakesNamed : ℕ → List (List Value) → Name → List Value → Bool → Type 0
MakesNamed size rows name values true = (table : Found) × IsPlainRow size rows values table × (table.create.name ≡ name)
MakesNamed size rows name values false = MakesNone size rows name values

-- whether the row at a place makes one
pub record MakesAt (size : ℕ) (rows : List (List Value)) (name : Name) (place : ℕ) (answer : Bool) : Type 0 where
  pub values : List Value
  pub is_there : values ≡ get_or rows place values
  pub makes : MakesNamed size rows name values answer

-- it does, and none before it
pub record IsFirstAt (size : ℕ) (rows : List (List Value)) (name : Name) (place : ℕ) : Type 0 where
  pub within : place < length rows
  pub makes : MakesAt size rows name place true
  pub first : AllByRecursion (MakesNone size rows name) (take place rows)

-- this is the root of a plain table, and the rowid of the row that makes it
pub record IsEntryOf (size : ℕ) (rowids : List ℤ) (rows : List (List Value)) (table : PlainTable) (entry : Entry) : Type 0 where
  pub rooted : entry.root ≡ table.root
  pub place : ℕ
  pub rowid_is : entry.rowid ≡ get_or rowids place entry.rowid
  pub first : IsFirstAt size rows table.name place

-- whether rows make a plain table
abbrev pub MayBeEntryOf : ℕ → List ℤ → List (List Value) → PlainTable → Option Entry → Type 0
MayBeEntryOf size rowids rows table (Some entry) = IsEntryOf size rowids rows table entry
MayBeEntryOf size rowids rows table None = AllByRecursion (MakesNone size rows table.name) rows

-- by these rows of a schema of so many pages, a name finds a plain table, and this row makes it
pub record FindsEntryIn (size : ℕ) (rowids : List ℤ) (rows : List (List Value)) (name : Name) (entry : Entry) : Type 0 where
  pub plain : List PlainTable
  pub foreign : List Name
  pub taken : List Name
  pub says : Says size rows plain foreign taken
  pub table : PlainTable
  pub finds : plain_named plain name ≡ Some table
  pub is : IsEntryOf size rowids rows table entry
  pub least : 2 ≤ entry.root
  pub most : entry.root ≤ size

-- or it finds none
pub record FindsNoEntry (size : ℕ) (rows : List (List Value)) (name : Name) : Type 0 where
  pub plain : List PlainTable
  pub are : ArePlainTables size rows plain
  pub none : plain_named plain name ≡ None

abbrev pub MayFindEntry : ℕ → List ℤ → List (List Value) → Name → Option Entry → Type 0
MayFindEntry size rowids rows name (Some entry) = FindsEntryIn size rowids rows name entry
MayFindEntry size rowids rows name None = FindsNoEntry size rows name
