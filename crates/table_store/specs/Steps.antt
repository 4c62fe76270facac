-- Words that only the private steps use: the schema as it was read, and what a name finds in rows of it.
use Rattle.std.specs.Prelude.{◌≡◌, ℕ, ℤ, true, false, IsTrue, List, ◌∷◌, length, map, codes, Some, None}
use Rattle.std.specs.Str.{str_eq_ignore_ascii_case}
use Rattle.db_format.specs.declared.value.Value.{Value}
use Rattle.db_format.specs.declared.value.Value.TheVariants.{Text}
use Rattle.db_format.specs.declared.fault.SpaceFault.TheVariants.{Memory}
use Rattle.db_format.specs.declared.plain.PlainTable.{PlainTable}
use Rattle.page_list.specs.Pages.{Pages}
use Rattle.book_model.specs.Book.{Name}
use Rattle.book_reads.specs.Reads.{HasSchema, Says, plain_named, is_named}
use Rattle.table_store.specs.Tables.{Finds}
use Rattle.table_store.specs.declared.schema.Place.{Place}
use Rattle.table_store.specs.declared.fault.TableFault.{TableFault}
use Rattle.table_store.specs.declared.fault.TableFault.TheVariants.{NoTable, Foreign, Exists, Columns, TooLong, Space}

-- the rows of the schema of the pages, and apart from them their rowids
pub record IsSchema (pages : Pages) (rowids : List ℤ) (rows : List (List Value)) : Type 0 where
  pub items : List (ℤ × List Value)
  pub has : HasSchema pages items
  pub rowids_are : rowids ≡ map (λ row. row.0) items
  pub rows_are : rows ≡ map (λ row. row.1) items

-- where the rows of the first of plain tables that has a name are
pub record IsPlaceOf (tables : List PlainTable) (name : Name) (place : Place) : Type 0 where
  pub table : PlainTable
  pub finds : plain_named tables name ≡ Some table
  pub rooted : place.root ≡ table.root
  pub columned : place.columns ≡ length table.create.columns

-- the same of the table that the name finds in the schema of the pages
pub record FindsPlace (pages : Pages) (name : Name) (place : Place) : Type 0 where
  pub table : PlainTable
  pub finds : Finds pages name table
  pub rooted : place.root ≡ table.root
  pub columned : place.columns ≡ length table.create.columns

-- a row of the schema is that of a table of this name, in letters of either case
pub record NamesTable (values : List Value) (name : Name) : Type 0 where
  pub own : Name
  pub more : List Value
  pub values_are : values ≡ Text (codes "table") ∷ Text own ∷ more
  pub alike : str_eq_ignore_ascii_case name own ≡ true

-- by these rows of a schema of so many pages, a name finds a plain table
pub record FindsIn (size : ℕ) (rows : List (List Value)) (name : Name) (place : Place) : Type 0 where
  pub plain : List PlainTable
  pub foreign : List Name
  pub taken : List Name
  pub says : Says size rows plain foreign taken
  pub place_is : IsPlaceOf plain name place

-- it finds none, and the name of a foreign one, or nothing
pub record FindsForeignIn (size : ℕ) (rows : List (List Value)) (name : Name) : Type 0 where
  pub plain : List PlainTable
  pub foreign : List Name
  pub taken : List Name
  pub says : Says size rows plain foreign taken
  pub none : plain_named plain name ≡ None
  pub named : IsTrue (is_named foreign name)

pub record FindsNothingIn (size : ℕ) (rows : List (List Value)) (name : Name) : Type 0 where
  pub plain : List PlainTable
  pub foreign : List Name
  pub taken : List Name
  pub says : Says size rows plain foreign taken
  pub none : plain_named plain name ≡ None
  pub unnamed : is_named foreign name ≡ false

-- why it finds none; want of memory needs no cause
abbrev pub NotFoundIn : ℕ → List (List Value) → Name → TableFault → Type 0
NotFoundIn size rows name NoTable = FindsNothingIn size rows name
NotFoundIn size rows name Foreign = FindsForeignIn size rows name
NotFoundIn size rows name Exists = ⊥
NotFoundIn size rows name Columns = ⊥
NotFoundIn size rows name TooLong = ⊥
NotFoundIn size rows name (Space fault) = fault ≡ Memory
