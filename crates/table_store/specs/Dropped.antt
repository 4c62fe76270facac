-- A table dropped: what that leaves of pages of any bytes and of a book, and why it is refused.
-- After sqlite.org, "Database File Format", sections 1.5, "The Freelist", 1.6, "B-tree Pages", and 2.6, "Storage Of The SQL Database
-- Schema".
use Rattle.std.specs.Prelude.{◌≡◌, ◌⊎◌, ℕ, ℤ, Bool, false, IsTrue, List}
use Rattle.db_format.specs.declared.value.Value.{Value}
use Rattle.db_format.specs.declared.fault.SpaceFault.{SpaceFault}
use Rattle.db_format.specs.declared.plain.PlainTable.{PlainTable}
use Rattle.page_list.specs.Pages.{Pages}
use Rattle.page_pool.specs.Space.{SpaceState, Stays}
use Rattle.payload_chain.specs.Chains.{Midway, midway}
use Rattle.tree_search.specs.Search.{SearchRefused}
use Rattle.tree_remove.specs.Remove.{RemoveDone, RemoveRefused}
use Rattle.tree_free.specs.Free.{TreeFreed, RemovesRoot, TreeRefused, IsSoundlyRefused as IsTreeSoundlyRefused}
use Rattle.rowid_tree.specs.Puts.{IsSoundlyRefused}
use Rattle.rowid_tree.specs.Removes.{RemovesRow, MayBeLargeWithout}
use Rattle.book_model.specs.Book.{Name, Book, is_plain, is_foreign, without_table}
use Rattle.book_reads.specs.Reads.{HasSchema, SchemaMeets, IsEntry}
use Rattle.book_changes.specs.Changes.{Becomes}
use Rattle.table_store.specs.Tables.{Finds, FindsForeign, FindsNothing}
use Rattle.table_store.specs.Books.{StandsFor}
use Rattle.table_store.specs.Changed.{IsPast, NoDamage}
use Rattle.table_store.specs.Cookie.{next_cookie, cookie_of, CookieRaised, CookieRefused}
use Rattle.table_store.specs.declared.fault.TableFault.{TableFault}
use Rattle.table_store.specs.declared.fault.TableFault.TheVariants.{NoTable, Foreign, Exists, Columns, TooLong, Space}

-- ---- of pages of any bytes

-- a name finds a plain table with this root, whose row in the schema has this rowid
pub record FindsEntry (pages : Pages) (name : Name) (root : ℕ) (entry : ℤ) : Type 0 where
  pub table : PlainTable
  pub finds : Finds pages name table
  pub rooted : root ≡ table.root
  pub rows : List (ℤ × List Value)
  pub has : HasSchema pages rows
  pub is_entry : IsEntry pages.size rows table.name entry

-- it does, and nothing changed until then
pub record EntryFound (old : SpaceState) (met : Midway) (name : Name) (root : ℕ) (entry : ℤ) : Type 0 where
  pub is : IsTrue old.tells → FindsEntry old.pages name root entry
  pub stays : Stays old (midway old met)

-- and then its row was taken out of the schema
pub record EntryTaken (old : SpaceState) (taken : Midway) (name : Name) (root : ℕ) (entry : ℤ) : Type 0 where
  pub met : Midway
  pub found : EntryFound old met name root entry
  pub removed : Bool
  pub done : IsTrue old.tells → RemoveDone old.page_size met.pages taken.pages taken.changed 1 entry removed
  pub nothing : removed ≡ false → Stays old (midway old taken)
  pub removes : IsTrue old.tells → RemovesRow met.pages taken.pages 1 entry removed

-- and every page of its tree given back
pub record TreeGiven (old : SpaceState) (given : Midway) (name : Name) (root : ℕ) (entry : ℤ) : Type 0 where
  pub taken : Midway
  pub before : EntryTaken old taken name root entry
  pub freed : TreeFreed (midway old taken) (midway old given) root
  pub gives : IsTrue old.tells → RemovesRoot taken.pages given.pages root

-- and the cookie raised
pub record DropDone (old new : SpaceState) (name : Name) : Type 0 where
  pub root : ℕ
  pub entry : ℤ
  pub given : Midway
  pub before : TreeGiven old given name root entry
  pub raised : CookieRaised (midway old given) new

-- the row was not taken out of the schema
pub record StopsAtRow (old new : SpaceState) (name : Name) (fault : SpaceFault) : Type 0 where
  pub root : ℕ
  pub entry : ℤ
  pub met : Midway
  pub found : EntryFound old met name root entry
  pub refused : RemoveRefused (midway old met) new 1 entry fault
  pub large : IsTrue old.tells → MayBeLargeWithout met.pages 1 entry old.page_size fault
  pub clean : IsTrue old.tells → IsSoundlyRefused met.pages 1 fault

-- it was, and the tree was not given back
pub record StopsAtTree (old new : SpaceState) (name : Name) (fault : SpaceFault) : Type 0 where
  pub root : ℕ
  pub entry : ℤ
  pub taken : Midway
  pub before : EntryTaken old taken name root entry
  pub refused : TreeRefused (midway old taken) new root fault
  pub clean : IsTrue old.tells → IsTreeSoundlyRefused taken.pages root fault

-- it was given back, and the cookie was not raised
pub record StopsAtCookie (old new : SpaceState) (name : Name) (fault : SpaceFault) : Type 0 where
  pub root : ℕ
  pub entry : ℤ
  pub given : Midway
  pub before : TreeGiven old given name root entry
  pub refused : CookieRefused (midway old given) new fault

abbrev pub StopsDropping : SpaceState → SpaceState → Name → SpaceFault → Type 0
StopsDropping old new name fault = StopsAtRow old new name fault ⊎ (StopsAtTree old new name fault ⊎ StopsAtCookie old new name fault)

-- why a table was not dropped, and what stands then: nothing has changed where the schema or the name refuses it
abbrev pub DropFails : SpaceState → SpaceState → Name → TableFault → Type 0
DropFails old new name NoTable = Stays old new × (IsTrue old.tells → FindsNothing old.pages name)
DropFails old new name Foreign = Stays old new × (IsTrue old.tells → FindsForeign old.pages name)
DropFails old new name Exists = ⊥
DropFails old new name Columns = ⊥
DropFails old new name TooLong = ⊥
DropFails old new name (Space fault) = (Stays old new × SearchRefused old new (SchemaMeets old.pages) fault) ⊎ StopsDropping old new name fault

-- ---- where the pages have a book

-- it is without the table that the name stands for, with the next cookie
pub record BookDropped (old new : SpaceState) (book : Book) (name : Name) : Type 0 where
  pub own : Name
  pub stands : StandsFor book name own
  pub becomes : Becomes book new.pages (without_table book own)
  pub cookie : cookie_of new.pages ≡ next_cookie (cookie_of old.pages)
  pub change : IsTrue new.changed

-- more pages than the greatest database has would be needed
pub record DropsTooMuch (page_size : ℕ) (book : Book) (name : Name) (pages : ℕ) : Type 0 where
  pub own : Name
  pub stands : StandsFor book name own
  pub past : IsPast page_size book (without_table book own) pages

-- why it is not dropped there
abbrev pub BookDropFails : ℕ → Book → Name → TableFault → Type 0
BookDropFails page_size book name NoTable = (is_plain book name ≡ false) × (is_foreign book name ≡ false)
BookDropFails page_size book name Foreign = IsTrue (is_foreign book name)
BookDropFails page_size book name Exists = ⊥
BookDropFails page_size book name Columns = ⊥
BookDropFails page_size book name TooLong = ⊥
BookDropFails page_size book name (Space fault) = NoDamage (DropsTooMuch page_size book name) fault
