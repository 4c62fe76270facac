-- A table of a book made, and one dropped.
use Rattle.std.specs.Prelude.{◌≡◌, ℕ, ◌+◌, ◌≤◌, Bool, false, ◌<ℤ◌, List, length}
use Rattle.std.specs.List.{Contains}
use Rattle.page_list.specs.Pages.{Pages, AreSized}
use Rattle.page_list.specs.Freelist.{first_trunk}
use Rattle.db_format.specs.Create.{IsPlain}
use Rattle.db_format.specs.Record.{IsRecord}
use Rattle.db_format.specs.Schema.{Table, tables_in}
use Rattle.tree_free.specs.Free.{RemovesRoot}
use Rattle.tree_model.specs.Whole.{below_all}
use Rattle.rowid_tree.specs.Puts.{PutsRow, IsTooLarge}
use Rattle.rowid_tree.specs.Removes.{RemovesRow, IsTooLargeWithout}
use Rattle.rowid_tree.specs.Roots.{AddsRoot}
use Rattle.book_model.specs.Book.{Name, Book, table_at, next_entry, is_taken, entry_row, with_table, without_table, use_of, need_of}
use Rattle.book_model.specs.Pages.{IsBookOf}
use Rattle.book_changes.specs.Changes.{Becomes, CookieChanges}

-- the payload is the record of the row that a new table has in the schema, and no longer than it need be
pub record IsEntry (name : Name) (columns : List Name) (number : ℕ) (payload : List ℕ) : Type 0 where
  pub is_record : IsRecord payload (entry_row name columns number).values
  pub size : length payload ≡ (entry_row name columns number).size

-- where there is one root more, the row of a plain table with that root, whose name is not taken, is put into the schema, and the cookie
-- changes, the book has the table too
abbrev pub TableMade : Type 0
TableMade = (page_size : ℕ) (old mid put new : Pages) (book : Book) (name : Name) (columns : List Name) (number : ℕ) (payload : List ℕ) (replaced : Bool) →
    IsBookOf old book → is_taken book name ≡ false → IsPlain (record { name = name; columns = columns }) → IsEntry name columns number payload →
    AddsRoot old mid number → PutsRow mid put 1 (next_entry book) payload replaced → CookieChanges put new → AreSized page_size new →
    Becomes book new (with_table book name columns number)

-- where the row of a plain table is taken out of the schema, its tree is given back and the cookie changes, the book is without the table
abbrev pub TableDropped : Type 0
TableDropped = (page_size : ℕ) (old mid given new : Pages) (book : Book) (is : IsBookOf old book) (table : Table) (removed : Bool) →
    Contains (tables_in is.found) table → RemovesRow old mid 1 (table_at book table.create.name).entry removed → RemovesRoot mid given table.root →
    CookieChanges given new → AreSized page_size new → Becomes book new (without_table book table.create.name)

-- where no page is free, one page more is within those that nothing names, those in use, and what the trees of the book may need with
-- another table
abbrev pub LargeRoot : Type 0
LargeRoot = (old : Pages) (book : Book) (name : Name) (columns : List Name) (number : ℕ) → IsBookOf old book → is_taken book name ≡ false → first_trunk old ≡ 0 →
    old.size + 1 ≤ length book.unnamed + use_of book + need_of (with_table book name columns number)

-- where so many pages are too many for the row of a new table, put into the schema once there is its root, they are within those that
-- nothing names, those in use, and what the trees of the book may need with the table
abbrev pub LargeEntry : Type 0
LargeEntry = (page_size pages : ℕ) (old mid : Pages) (book : Book) (name : Name) (columns : List Name) (number : ℕ) (payload : List ℕ) →
    IsBookOf old book → is_taken book name ≡ false → IsEntry name columns number payload → below_all <ℤ next_entry book → AddsRoot old mid number →
    IsTooLarge mid 1 (next_entry book) payload page_size pages →
    pages ≤ length book.unnamed + use_of book + need_of (with_table book name columns number)

-- and where they are for the row of a table that is taken out of the schema, without the table
abbrev pub LargeDrop : Type 0
LargeDrop = (page_size pages : ℕ) (old : Pages) (book : Book) (is : IsBookOf old book) (table : Table) →
    Contains (tables_in is.found) table → IsTooLargeWithout old 1 (table_at book table.create.name).entry page_size pages →
    pages ≤ length book.unnamed + use_of book + need_of (without_table book table.create.name)
