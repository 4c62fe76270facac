-- A table made: what that leaves of pages of any bytes and of a book, and why it is refused.
-- After sqlite.org, "Database File Format", sections 1.3, "The Database Header", 1.5, "The Freelist", 1.6, "B-tree Pages", and 2.6,
-- "Storage Of The SQL Database Schema".
use Rattle.std.specs.Prelude.{◌≡◌, ◌⊎◌, ℕ, ℤ, ◌-◌, ◌≤◌, Bool, false, IsTrue, List, map, reverse, Err}
use Rattle.std.specs.List.{flat_map}
use Rattle.db_format.specs.Record.{IsRecord, IsShortest, AreBytes}
use Rattle.db_format.specs.declared.create.Create.{Create}
use Rattle.db_format.specs.declared.value.Value.{Value}
use Rattle.db_format.specs.declared.fault.SpaceFault.{SpaceFault}
use Rattle.db_format.specs.declared.fault.SpaceFault.TheVariants.{Memory}
use Rattle.page_list.specs.Pages.{Pages}
use Rattle.page_pool.specs.Space.{SpaceState, Stays, Grew, GrowCause, PageCause}
use Rattle.payload_chain.specs.Chains.{Midway, midway}
use Rattle.tree_search.specs.Search.{SearchRefused}
use Rattle.rowid_tree.specs.Puts.{PutDone, PutRefused, PutsRow, MayBeLarge, IsSoundlyRefused}
use Rattle.rowid_tree.specs.Roots.{RootMade, RootRefused, AddsRoot}
use Rattle.book_model.specs.Book.{Name, Book, taken_by, is_taken, next_of, entry_row, with_table}
use Rattle.book_reads.specs.Reads.{HasSchema, SchemaMeets, is_named}
use Rattle.book_changes.specs.Changes.{Becomes}
use Rattle.book_changes.specs.First.{IsFirstPage}
use Rattle.table_store.specs.Changed.{IsPast, NoDamage}
use Rattle.table_store.specs.Cookie.{next_cookie, cookie_of, CookieRaised, CookieRefused}
use Rattle.table_store.specs.declared.fault.TableFault.{TableFault}
use Rattle.table_store.specs.declared.fault.TableFault.TheVariants.{NoTable, Foreign, Exists, Columns, TooLong, Space}

-- ---- of pages of any bytes

-- the names that these rows of a schema take
abbrev pub taken_in : List (ℤ × List Value) → List Name
taken_in rows = flat_map taken_by (map (λ row. row.1) rows)

-- the schema is gone over without a fault, and its rows take the name
pub record IsTakenIn (pages : Pages) (name : Name) : Type 0 where
  pub rows : List (ℤ × List Value)
  pub has : HasSchema pages rows
  pub taken : IsTrue (is_named (taken_in rows) name)

-- or they do not, and this is the rowid that a new row of it gets
pub record IsFreeIn (pages : Pages) (name : Name) (entry : ℤ) : Type 0 where
  pub rows : List (ℤ × List Value)
  pub has : HasSchema pages rows
  pub free : is_named (taken_in rows) name ≡ false
  pub entry_is : entry ≡ next_of (reverse (map (λ row. row.0) rows))

-- the name is free, and nothing changed until that was known
pub record NameFree (old : SpaceState) (met : Midway) (name : Name) (entry : ℤ) : Type 0 where
  pub is : IsTrue old.tells → IsFreeIn old.pages name entry
  pub stays : Stays old (midway old met)

-- of no pages there is page 1 then: a leaf without a row behind a new header, without a cookie; or there are pages, and they stay
pub record FirstMade (old new : SpaceState) : Type 0 where
  pub none : old.pages.size ≡ 0
  pub size : new.pages.size ≡ 1
  pub change : IsTrue new.changed
  pub first : IsTrue old.tells → IsFirstPage old.page_size (old.page_size - old.pages.usable) new.pages

abbrev pub Begins : SpaceState → SpaceState → Type 0
Begins old new = ((1 ≤ old.pages.size) × Stays old new) ⊎ FirstMade old new

-- there were none, and page 1 could not be added; or it is one of zeros
pub record StopsAtZeros (old new : SpaceState) (fault : SpaceFault) : Type 0 where
  pub met : Midway
  pub grew : Grew old (midway old met) 1
  pub stays : Stays (midway old met) new
  pub cause : PageCause {T = Unit} (midway old met) new 1 (Err fault)

abbrev pub BeginRefused : SpaceState → SpaceState → SpaceFault → Type 0
BeginRefused old new fault = (old.pages.size ≡ 0) × ((Stays old new × GrowCause {T = ℕ} old new (Err fault)) ⊎ StopsAtZeros old new fault)

-- the payload is a record of the row that a table has in the schema, and no longer than it need be
pub record IsEntryRecord (table : Create) (number : ℕ) (payload : List ℕ) : Type 0 where
  pub bytes : AreBytes payload
  pub is_record : IsRecord payload (entry_row table.name table.columns number).values
  pub shortest : IsShortest payload (entry_row table.name table.columns number).values

-- this row was put into the schema
pub record EntryPut (old new : SpaceState) (table : Create) (number : ℕ) (entry : ℤ) : Type 0 where
  pub payload : List ℕ
  pub is : IsEntryRecord table number payload
  pub replaced : Bool
  pub done : PutDone old new 1 entry payload replaced
  pub puts : IsTrue old.tells → PutsRow old.pages new.pages 1 entry payload replaced

-- or it was not: there was no memory to write the record, or the put was refused
pub record EntryStops (old new : SpaceState) (table : Create) (number : ℕ) (entry : ℤ) (fault : SpaceFault) : Type 0 where
  pub payload : List ℕ
  pub is : IsEntryRecord table number payload
  pub refused : PutRefused old new 1 entry payload fault
  pub large : IsTrue old.tells → MayBeLarge old.pages 1 entry payload old.page_size fault
  pub clean : IsTrue old.tells → IsSoundlyRefused old.pages 1 fault

abbrev pub EntryRefused : SpaceState → SpaceState → Create → ℕ → ℤ → SpaceFault → Type 0
EntryRefused old new table number entry fault = (Stays old new × (fault ≡ Memory)) ⊎ EntryStops old new table number entry fault

-- the steps: the name was free, and there was page 1 then
pub record Begun (old : SpaceState) (begun : Midway) (name : Name) (entry : ℤ) : Type 0 where
  pub met : Midway
  pub free : NameFree old met name entry
  pub begins : Begins (midway old met) (midway old begun)

-- and a root more
pub record Rooted (old : SpaceState) (rooted : Midway) (name : Name) (entry : ℤ) (number : ℕ) : Type 0 where
  pub begun : Midway
  pub before : Begun old begun name entry
  pub made : RootMade (midway old begun) (midway old rooted) number
  pub adds : IsTrue old.tells → AddsRoot begun.pages rooted.pages number

-- and its row in the schema
pub record Entered (old : SpaceState) (entered : Midway) (table : Create) (entry : ℤ) (number : ℕ) : Type 0 where
  pub rooted : Midway
  pub before : Rooted old rooted table.name entry number
  pub put : EntryPut (midway old rooted) (midway old entered) table number entry

-- and the cookie was raised
pub record MakeDone (old new : SpaceState) (table : Create) : Type 0 where
  pub entry : ℤ
  pub number : ℕ
  pub entered : Midway
  pub before : Entered old entered table entry number
  pub raised : CookieRaised (midway old entered) new

-- the name was free, and there is no page 1; or there is, and no root
pub record StopsAtFirst (old new : SpaceState) (name : Name) (fault : SpaceFault) : Type 0 where
  pub entry : ℤ
  pub met : Midway
  pub free : NameFree old met name entry
  pub refused : BeginRefused (midway old met) new fault

pub record StopsAtNewRoot (old new : SpaceState) (name : Name) (fault : SpaceFault) : Type 0 where
  pub entry : ℤ
  pub begun : Midway
  pub before : Begun old begun name entry
  pub refused : RootRefused (midway old begun) new fault

-- there is, and its row was not put into the schema; or it was, and the cookie was not raised
pub record StopsAtEntry (old new : SpaceState) (table : Create) (fault : SpaceFault) : Type 0 where
  pub entry : ℤ
  pub number : ℕ
  pub rooted : Midway
  pub before : Rooted old rooted table.name entry number
  pub refused : EntryRefused (midway old rooted) new table number entry fault

pub record StopsAtNewCookie (old new : SpaceState) (table : Create) (fault : SpaceFault) : Type 0 where
  pub entry : ℤ
  pub number : ℕ
  pub entered : Midway
  pub before : Entered old entered table entry number
  pub refused : CookieRefused (midway old entered) new fault

abbrev pub StopsMaking : SpaceState → SpaceState → Create → SpaceFault → Type 0
StopsMaking old new table fault =
    StopsAtFirst old new table.name fault ⊎ (StopsAtNewRoot old new table.name fault ⊎ (StopsAtEntry old new table fault ⊎ StopsAtNewCookie old new table fault))

-- why a table was not made, and what stands then: nothing has changed where the schema or the name refuses it
abbrev pub MakeFails : SpaceState → SpaceState → Create → TableFault → Type 0
MakeFails old new table NoTable = ⊥
MakeFails old new table Foreign = ⊥
MakeFails old new table Exists = Stays old new × (IsTrue old.tells → IsTakenIn old.pages table.name)
MakeFails old new table Columns = ⊥
MakeFails old new table TooLong = ⊥
MakeFails old new table (Space fault) = (Stays old new × SearchRefused old new (SchemaMeets old.pages) fault) ⊎ StopsMaking old new table fault

-- ---- where the pages have a book

-- it has the table too, without a row, with the next cookie; the name was free
pub record BookMade (old new : SpaceState) (book : Book) (table : Create) : Type 0 where
  pub free : is_taken book table.name ≡ false
  pub number : ℕ
  pub becomes : Becomes book new.pages (with_table book table.name table.columns number)
  pub cookie : cookie_of new.pages ≡ next_cookie (cookie_of old.pages)
  pub change : IsTrue new.changed

-- more pages than the greatest database has would be needed
pub record MakesTooMuch (page_size : ℕ) (book : Book) (table : Create) (pages : ℕ) : Type 0 where
  pub free : is_taken book table.name ≡ false
  pub number : ℕ
  pub past : IsPast page_size book (with_table book table.name table.columns number) pages

-- why it is not made there
abbrev pub BookMakeFails : ℕ → Book → Create → TableFault → Type 0
BookMakeFails page_size book table NoTable = ⊥
BookMakeFails page_size book table Foreign = ⊥
BookMakeFails page_size book table Exists = IsTrue (is_taken book table.name)
BookMakeFails page_size book table Columns = ⊥
BookMakeFails page_size book table TooLong = ⊥
BookMakeFails page_size book table (Space fault) = NoDamage (MakesTooMuch page_size book table) fault
