-- A row put into a plain table of a book, and one taken out.
use Rattle.std.specs.Prelude.{◌≡◌, ℕ, ◌+◌, ◌≤◌, Bool, ℤ, ◌<ℤ◌, List, length}
use Rattle.std.specs.List.{Contains}
use Rattle.page_list.specs.Pages.{Pages, AreSized}
use Rattle.db_format.specs.Record.{IsRecord}
use Rattle.db_format.specs.Schema.{Table, tables_in}
use Rattle.db_format.specs.declared.value.Value.{Value}
use Rattle.tree_model.specs.Whole.{below_all}
use Rattle.rowid_tree.specs.Puts.{PutsRow, IsTooLarge}
use Rattle.rowid_tree.specs.Removes.{RemovesRow, IsTooLargeWithout}
use Rattle.book_model.specs.Size.{record_size}
use Rattle.book_model.specs.Book.{Book, with_row, without_row, has_row, use_of, need_of}
use Rattle.book_model.specs.Pages.{IsBookOf}
use Rattle.book_changes.specs.Changes.{Becomes}

-- the payload is a record of as many values as the table has columns, and no longer than it need be
pub record IsPayload (table : Table) (payload : List ℕ) (values : List Value) : Type 0 where
  pub is_record : IsRecord payload values
  pub full : length values ≡ length table.create.columns
  pub size : length payload ≡ record_size values

-- a row put into the tree of a plain table is put into that table of the book, and the answer tells whether the book had it
abbrev pub RowPut : Type 0
RowPut = (page_size : ℕ) (old new : Pages) (book : Book) (is : IsBookOf old book) (table : Table) (rowid : ℤ) (values : List Value) (payload : List ℕ) (replaced : Bool) →
    Contains (tables_in is.found) table → IsPayload table payload values → AreSized page_size new → PutsRow old new table.root rowid payload replaced →
    Becomes book new (with_row book table.create.name rowid values) × (replaced ≡ has_row book table.create.name rowid)

-- and so where one is taken out
abbrev pub RowRemoved : Type 0
RowRemoved = (page_size : ℕ) (old new : Pages) (book : Book) (is : IsBookOf old book) (table : Table) (rowid : ℤ) (removed : Bool) →
    Contains (tables_in is.found) table → AreSized page_size new → RemovesRow old new table.root rowid removed →
    Becomes book new (without_row book table.create.name rowid) × (removed ≡ has_row book table.create.name rowid)

-- where so many pages are too many for a put, they are within those that nothing names, those in use, and what the trees of the book may
-- need with the row
abbrev pub LargePut : Type 0
LargePut = (page_size pages : ℕ) (old : Pages) (book : Book) (is : IsBookOf old book) (table : Table) (rowid : ℤ) (values : List Value) (payload : List ℕ) →
    Contains (tables_in is.found) table → IsPayload table payload values → below_all <ℤ rowid → IsTooLarge old table.root rowid payload page_size pages →
    pages ≤ length book.unnamed + use_of book + need_of (with_row book table.create.name rowid values)

-- and where they are for a removal, without it
abbrev pub LargeRemoval : Type 0
LargeRemoval = (page_size pages : ℕ) (old : Pages) (book : Book) (is : IsBookOf old book) (table : Table) (rowid : ℤ) →
    Contains (tables_in is.found) table → IsTooLargeWithout old table.root rowid page_size pages →
    pages ≤ length book.unnamed + use_of book + need_of (without_row book table.create.name rowid)
