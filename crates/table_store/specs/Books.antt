-- What the same calls answer where the pages have a book.
use Rattle.std.specs.Prelude.{◌≡◌, ℕ, ℤ, false, IsTrue, List, [], ◌∷◌, Option, Some, None}
use Rattle.std.specs.Str.{str_eq_ignore_ascii_case}
use Rattle.std.specs.FinMap as map
use Rattle.db_format.specs.Create.{IsIdentifier}
use Rattle.db_format.specs.declared.value.Value.{Value}
use Rattle.page_list.specs.Pages.{Pages}
use Rattle.page_pool.specs.Space.{SpaceState}
use Rattle.tree_search.specs.Search.{IsNoDamage}
use Rattle.book_model.specs.Book.{Name, Book, table_at, is_plain, is_foreign}
use Rattle.book_model.specs.Pages.{IsBook}
use Rattle.book_reads.specs.Reads.{rows_between, values_at}
use Rattle.table_store.specs.declared.fault.TableFault.{TableFault}
use Rattle.table_store.specs.declared.fault.TableFault.TheVariants.{NoTable, Foreign, Exists, Columns, TooLong, Space}

-- the plain table of a book that a name stands for, in letters of either case; a name of small letters is its own
pub record StandsFor (book : Book) (name own : Name) : Type 0 where
  pub alike : IsTrue (str_eq_ignore_ascii_case name own)
  pub there : IsTrue (is_plain book own)
  pub same : IsIdentifier name → own ≡ name

-- the row of a rowid
pub record BookRow (book : Book) (name : Name) (rowid : ℤ) (found : Option (List Value)) : Type 0 where
  pub own : Name
  pub stands : StandsFor book name own
  pub is : found ≡ values_at (table_at book own).rows rowid

-- the first row between two rowids
abbrev pub first : List (ℤ × List Value) → Option (ℤ × List Value)
first [] = None
first (row ∷ more) = Some row

pub record BookNext (book : Book) (name : Name) (low high : ℤ) (found : Option (ℤ × List Value)) : Type 0 where
  pub own : Name
  pub stands : StandsFor book name own
  pub is : found ≡ first (rows_between low high (table_at book own).rows)

-- how many rows there are
pub record BookCount (book : Book) (name : Name) (count : ℕ) : Type 0 where
  pub own : Name
  pub stands : StandsFor book name own
  pub is : count ≡ map.len (table_at book own).rows

-- why a read is refused there: no page is at fault
abbrev pub BookRefused : Book → Name → TableFault → Type 0
BookRefused book name NoTable = (is_plain book name ≡ false) × (is_foreign book name ≡ false)
BookRefused book name Foreign = IsTrue (is_foreign book name)
BookRefused book name Exists = ⊥
BookRefused book name Columns = ⊥
BookRefused book name TooLong = ⊥
BookRefused book name (Space fault) = IsNoDamage fault

-- so it is for the book of the pages, where they have one
pub record OfBook (pages : Pages) (Says : Book → Type 0) : Type 0 where
  pub each : (page_size : ℕ) (book : Book) → IsBook page_size pages book → Says book

-- the same of the pages of a space, whose page size is that of the book of no pages
pub record OfSpace (s : SpaceState) (Says : Book → Type 0) : Type 0 where
  pub each : (book : Book) → IsBook s.page_size s.pages book → Says book
