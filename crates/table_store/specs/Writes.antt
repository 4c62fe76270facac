-- What calls that change the rows of tables leave of pages of any bytes, and why they are refused.
-- After sqlite.org, "Database File Format", sections 1.6, "B-tree Pages", 2.1, "Record Format", and 2.6, "Storage Of The SQL Database
-- Schema".
use Rattle.std.specs.Prelude.{◌≡◌, ◌≢◌, ◌⊎◌, ℕ, ℤ, nat_lt, Bool, true, false, IsTrue, List, length, Option}
use Rattle.std.specs.List.{list_any}
use Rattle.db_format.specs.Record.{IsRecord, IsShortest, AreBytes}
use Rattle.db_format.specs.declared.value.Value.{Value}
use Rattle.db_format.specs.declared.value.Value.TheVariants.{Null, Int, Text, Blob, Real}
use Rattle.db_format.specs.declared.fault.SpaceFault.{SpaceFault}
use Rattle.db_format.specs.declared.plain.PlainTable.{PlainTable}
use Rattle.page_list.specs.Pages.{Pages}
use Rattle.page_pool.specs.Space.{SpaceState, Stays}
use Rattle.payload_chain.specs.Chains.{Midway, midway}
use Rattle.tree_search.specs.Search.{SearchRefused}
use Rattle.tree_remove.specs.Remove.{RemoveDone, RemoveRefused}
use Rattle.rowid_tree.specs.Puts.{PutDone, PutRefused, PutsRow, MayBeLarge, IsSoundlyRefused, HasWholeTree}
use Rattle.rowid_tree.specs.Removes.{RemovesRow, MayBeLargeWithout}
use Rattle.book_model.specs.Book.{Name}
use Rattle.table_store.specs.Tables.{Finds, FindsForeign, FindsNothing, ReadMeets, GetsRow, RowMeets, columns_of}
use Rattle.table_store.specs.declared.fault.TableFault.{TableFault}
use Rattle.table_store.specs.declared.fault.TableFault.TheVariants.{NoTable, Foreign, Exists, Columns, TooLong, Space}

-- ---- values

-- how many bytes a text or a blob has
abbrev pub bytes_in : Value → ℕ
bytes_in Null = 0
bytes_in (Int n) = 0
bytes_in (Text bytes) = length bytes
bytes_in (Blob bytes) = length bytes
bytes_in (Real bits) = 0

-- they are too many
abbrev pub is_long : Value → Bool
is_long value = nat_lt 65536 (bytes_in value)

-- a name finds a plain table with this root and so many columns
pub record FindsTable (pages : Pages) (name : Name) (root columns : ℕ) : Type 0 where
  pub table : PlainTable
  pub finds : Finds pages name table
  pub rooted : root ≡ table.root
  pub columned : columns ≡ columns_of table

-- the values may be put into a table: there is one a column, and none is too long
pub record Fit (columns : ℕ) (values : List Value) : Type 0 where
  pub full : length values ≡ columns
  pub short : list_any is_long values ≡ false

-- why they may not: there are more or fewer than columns, or one is too long
abbrev pub Misfit : ℕ → List Value → TableFault → Type 0
Misfit columns values NoTable = ⊥
Misfit columns values Foreign = ⊥
Misfit columns values Exists = ⊥
Misfit columns values Columns = length values ≢ columns
Misfit columns values TooLong = (length values ≡ columns) × IsTrue (list_any is_long values)
Misfit columns values (Space fault) = ⊥

-- a table is found, and they may not be put into it
pub record MisfitIn (pages : Pages) (name : Name) (values : List Value) (fault : TableFault) : Type 0 where
  pub table : PlainTable
  pub found : Finds pages name table
  pub misfit : Misfit (columns_of table) values fault

-- the row of a rowid can be read, or there is none
pub record RowIsRead (pages : Pages) (name : Name) (rowid : ℤ) : Type 0 where
  pub row : Option (List Value)
  pub gets : GetsRow pages name rowid row

-- ---- a row put

-- a table was found, the row could be read or was not there, and nothing changed until then; and a payload that is a record of the values, and no longer than it need be, was put
-- into its tree
pub record RowPutIn (old new : SpaceState) (name : Name) (rowid : ℤ) (values : List Value) (replaced : Bool) : Type 0 where
  pub root : ℕ
  pub columns : ℕ
  pub found : IsTrue old.tells → FindsTable old.pages name root columns
  pub read : IsTrue old.tells → RowIsRead old.pages name rowid
  pub fit : Fit columns values
  pub payload : List ℕ
  pub bytes : AreBytes payload
  pub is_record : IsRecord payload values
  pub shortest : IsShortest payload values
  pub met : Midway
  pub stays : Stays old (midway old met)
  pub done : PutDone (midway old met) new root rowid payload replaced
  pub puts : IsTrue old.tells → PutsRow met.pages new.pages root rowid payload replaced
  pub changes : IsTrue old.tells → HasWholeTree met.pages root → IsTrue new.changed

-- the same, and the put was refused
pub record StopsPutting (old new : SpaceState) (name : Name) (rowid : ℤ) (values : List Value) (fault : SpaceFault) : Type 0 where
  pub root : ℕ
  pub columns : ℕ
  pub found : IsTrue old.tells → FindsTable old.pages name root columns
  pub read : IsTrue old.tells → RowIsRead old.pages name rowid
  pub fit : Fit columns values
  pub payload : List ℕ
  pub bytes : AreBytes payload
  pub is_record : IsRecord payload values
  pub shortest : IsShortest payload values
  pub met : Midway
  pub stays : Stays old (midway old met)
  pub refused : PutRefused (midway old met) new root rowid payload fault
  pub large : IsTrue old.tells → MayBeLarge met.pages root rowid payload old.page_size fault
  pub clean : IsTrue old.tells → IsSoundlyRefused met.pages root fault

-- why a row was not put, and what stands then: nothing has changed where the schema, the name, the values or the path of the row refuse it
abbrev pub PutFails : SpaceState → SpaceState → Name → ℤ → List Value → TableFault → Type 0
PutFails old new name rowid values NoTable = Stays old new × (IsTrue old.tells → FindsNothing old.pages name)
PutFails old new name rowid values Foreign = Stays old new × (IsTrue old.tells → FindsForeign old.pages name)
PutFails old new name rowid values Exists = ⊥
PutFails old new name rowid values Columns = Stays old new × (IsTrue old.tells → MisfitIn old.pages name values Columns)
PutFails old new name rowid values TooLong = Stays old new × (IsTrue old.tells → MisfitIn old.pages name values TooLong)
PutFails old new name rowid values (Space fault) =
    (Stays old new × SearchRefused old new (ReadMeets old.pages name (RowMeets old.pages rowid)) fault) ⊎ StopsPutting old new name rowid values fault

-- the same of the reads before the put
abbrev pub PlaceFails : SpaceState → SpaceState → Name → ℤ → List Value → TableFault → Type 0
PlaceFails old new name rowid values NoTable = IsTrue old.tells → FindsNothing old.pages name
PlaceFails old new name rowid values Foreign = IsTrue old.tells → FindsForeign old.pages name
PlaceFails old new name rowid values Exists = ⊥
PlaceFails old new name rowid values Columns = IsTrue old.tells → MisfitIn old.pages name values Columns
PlaceFails old new name rowid values TooLong = IsTrue old.tells → MisfitIn old.pages name values TooLong
PlaceFails old new name rowid values (Space fault) = SearchRefused old new (ReadMeets old.pages name (RowMeets old.pages rowid)) fault

-- ---- a row taken out

-- a table was found, the row could be read or was not there, and nothing changed until then; and the row was taken out of its tree, or it has none and still nothing has changed
pub record RowTakenFrom (old new : SpaceState) (name : Name) (rowid : ℤ) (removed : Bool) : Type 0 where
  pub root : ℕ
  pub columns : ℕ
  pub found : IsTrue old.tells → FindsTable old.pages name root columns
  pub read : IsTrue old.tells → RowIsRead old.pages name rowid
  pub met : Midway
  pub stays : Stays old (midway old met)
  pub done : IsTrue old.tells → RemoveDone old.page_size met.pages new.pages new.changed root rowid removed
  pub nothing : removed ≡ false → Stays old new
  pub removes : IsTrue old.tells → RemovesRow met.pages new.pages root rowid removed
  pub changes : removed ≡ true → IsTrue old.tells → HasWholeTree met.pages root → IsTrue new.changed

pub record StopsTaking (old new : SpaceState) (name : Name) (rowid : ℤ) (fault : SpaceFault) : Type 0 where
  pub root : ℕ
  pub columns : ℕ
  pub found : IsTrue old.tells → FindsTable old.pages name root columns
  pub read : IsTrue old.tells → RowIsRead old.pages name rowid
  pub met : Midway
  pub stays : Stays old (midway old met)
  pub refused : RemoveRefused (midway old met) new root rowid fault
  pub large : IsTrue old.tells → MayBeLargeWithout met.pages root rowid old.page_size fault
  pub clean : IsTrue old.tells → IsSoundlyRefused met.pages root fault

-- why it was not, and what stands then
abbrev pub RemoveFails : SpaceState → SpaceState → Name → ℤ → TableFault → Type 0
RemoveFails old new name rowid NoTable = Stays old new × (IsTrue old.tells → FindsNothing old.pages name)
RemoveFails old new name rowid Foreign = Stays old new × (IsTrue old.tells → FindsForeign old.pages name)
RemoveFails old new name rowid Exists = ⊥
RemoveFails old new name rowid Columns = ⊥
RemoveFails old new name rowid TooLong = ⊥
RemoveFails old new name rowid (Space fault) =
    (Stays old new × SearchRefused old new (ReadMeets old.pages name (RowMeets old.pages rowid)) fault) ⊎ StopsTaking old new name rowid fault
