-- What calls that change tables leave where the pages have a book, and why they are refused there.
use Rattle.std.specs.Prelude.{◌≡◌, ◌≢◌, ℕ, ◌+◌, ◌-◌, ◌*◌, ◌≤◌, ◌<◌, ℤ, Bool, true, false, IsTrue, List, length}
use Rattle.std.specs.List.{list_any}
use Rattle.db_format.specs.Header.{greatest_length}
use Rattle.db_format.specs.declared.value.Value.{Value}
use Rattle.db_format.specs.declared.fault.SpaceFault.{SpaceFault}
use Rattle.db_format.specs.declared.fault.SpaceFault.TheVariants.{Failed, Memory, Bad, Corrupt, Large}
use Rattle.page_pool.specs.Space.{SpaceState}
use Rattle.book_model.specs.Book.{Name, Book, table_at, is_plain, is_foreign, with_row, without_row, has_row, use_of, need_of}
use Rattle.book_changes.specs.Changes.{Becomes}
use Rattle.table_store.specs.Books.{StandsFor}
use Rattle.table_store.specs.Writes.{is_long}
use Rattle.table_store.specs.Cookie.{cookie_of}
use Rattle.table_store.specs.declared.fault.TableFault.{TableFault}
use Rattle.table_store.specs.declared.fault.TableFault.TheVariants.{NoTable, Foreign, Exists, Columns, TooLong, Space}

-- so many pages, and no fewer, pass the greatest database, and they are within those that nothing names, those in use, and what the trees
-- may need afterwards
pub record IsPast (page_size : ℕ) (old after : Book) (pages : ℕ) : Type 0 where
  pub passes : greatest_length < pages * page_size
  pub least : (pages - 1) * page_size ≤ greatest_length
  pub within : pages ≤ length old.unnamed + use_of old + need_of after

-- a row is put into the table that the name stands for, and the answer tells whether it had one of this rowid; the schema cookie stays
pub record BookPut (old new : SpaceState) (book : Book) (name : Name) (rowid : ℤ) (values : List Value) (replaced : Bool) : Type 0 where
  pub own : Name
  pub stands : StandsFor book name own
  pub full : length values ≡ length (table_at book own).columns
  pub short : list_any is_long values ≡ false
  pub becomes : Becomes book new.pages (with_row book own rowid values)
  pub cookie : cookie_of new.pages ≡ cookie_of old.pages
  pub told : replaced ≡ has_row book own rowid
  pub change : IsTrue new.changed

-- more pages than the greatest database has would be needed
pub record PutsTooMuch (page_size : ℕ) (book : Book) (name : Name) (rowid : ℤ) (values : List Value) (pages : ℕ) : Type 0 where
  pub own : Name
  pub stands : StandsFor book name own
  pub past : IsPast page_size book (with_row book own rowid values) pages

-- there are not as many values as the table has columns; or one is too long
pub record OtherColumns (book : Book) (name : Name) (values : List Value) : Type 0 where
  pub own : Name
  pub stands : StandsFor book name own
  pub others : length values ≢ length (table_at book own).columns

pub record LongValue (book : Book) (name : Name) (values : List Value) : Type 0 where
  pub own : Name
  pub stands : StandsFor book name own
  pub full : length values ≡ length (table_at book own).columns
  pub long : IsTrue (list_any is_long values)

-- no page is at fault, and so many are too many only for this
abbrev pub NoDamage : (ℕ → Type 0) → SpaceFault → Type 0
NoDamage Past Failed = Unit {0}
NoDamage Past Memory = Unit {0}
NoDamage Past (Bad page kept found) = ⊥
NoDamage Past (Corrupt page) = ⊥
NoDamage Past (Large pages) = Past pages

-- why a row is not put there
abbrev pub BookPutFails : ℕ → Book → Name → ℤ → List Value → TableFault → Type 0
BookPutFails page_size book name rowid values NoTable = (is_plain book name ≡ false) × (is_foreign book name ≡ false)
BookPutFails page_size book name rowid values Foreign = IsTrue (is_foreign book name)
BookPutFails page_size book name rowid values Exists = ⊥
BookPutFails page_size book name rowid values Columns = OtherColumns book name values
BookPutFails page_size book name rowid values TooLong = LongValue book name values
BookPutFails page_size book name rowid values (Space fault) = NoDamage (PutsTooMuch page_size book name rowid values) fault

-- a row is taken out of the table that the name stands for; there may be none; the schema cookie stays
pub record BookRemoved (old new : SpaceState) (book : Book) (name : Name) (rowid : ℤ) (removed : Bool) : Type 0 where
  pub own : Name
  pub stands : StandsFor book name own
  pub becomes : Becomes book new.pages (without_row book own rowid)
  pub cookie : cookie_of new.pages ≡ cookie_of old.pages
  pub told : removed ≡ has_row book own rowid
  pub change : removed ≡ true → IsTrue new.changed

pub record RemovesTooMuch (page_size : ℕ) (book : Book) (name : Name) (rowid : ℤ) (pages : ℕ) : Type 0 where
  pub own : Name
  pub stands : StandsFor book name own
  pub past : IsPast page_size book (without_row book own rowid) pages

abbrev pub BookRemoveFails : ℕ → Book → Name → ℤ → TableFault → Type 0
BookRemoveFails page_size book name rowid NoTable = (is_plain book name ≡ false) × (is_foreign book name ≡ false)
BookRemoveFails page_size book name rowid Foreign = IsTrue (is_foreign book name)
BookRemoveFails page_size book name rowid Exists = ⊥
BookRemoveFails page_size book name rowid Columns = ⊥
BookRemoveFails page_size book name rowid TooLong = ⊥
BookRemoveFails page_size book name rowid (Space fault) = NoDamage (RemovesTooMuch page_size book name rowid) fault
