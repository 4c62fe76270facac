-- The book of a database as it is begun.
use Rattle.std.specs.Prelude.{◌≡◌, ℕ, ◌+◌, ◌≤◌, ◌<◌, Bool, List, [], length}
use Rattle.db_format.specs.Create.{IsPlain}
use Rattle.db_format.specs.Header.{IsPageSize, IsNew, ReadsNew}
use Rattle.page_list.specs.Pages.{Pages, AreSized}
use Rattle.tree_page.specs.declared.cell.PageCells.TheVariants.{Leaf as LeafPage}
use Rattle.tree_model.specs.Held.{HasCells}
use Rattle.rowid_tree.specs.Puts.{PutsRow}
use Rattle.rowid_tree.specs.Roots.{AddsRoot}
use Rattle.book_model.specs.Book.{Name, empty_book, next_entry, with_table}
use Rattle.book_model.specs.Pages.{IsBookOf}
use Rattle.book_changes.specs.Changes.{Becomes, CookieChanges}
use Rattle.book_changes.specs.Tables.{IsEntry}

-- there is one page: a leaf without a row behind a new header (section 1.3)
pub record IsFirstPage (page reserved : ℕ) (pages : Pages) : Type 0 where
  pub size : pages.size ≡ 1
  pub page_is : IsPageSize page
  pub used : page ≡ pages.usable + reserved
  pub least : 480 ≤ pages.usable
  pub few : reserved < 256
  pub long : 100 ≤ length (pages.bytes 1)
  pub header : IsNew page reserved (pages.bytes 1)
  pub reads : ReadsNew page reserved (pages.bytes 1)
  pub cells : HasCells pages 1 (LeafPage [])

-- then the book is that of a database of no pages, with this one
abbrev pub FirstPage : Type 0
FirstPage = (page reserved : ℕ) (pages : Pages) → IsFirstPage page reserved pages → IsBookOf pages (record (empty_book page pages.usable) { pages = 1 })

-- where this is such a page, and then a first table is made, the book of no pages has the table
abbrev pub FirstTable : Type 0
FirstTable = (page_size page reserved : ℕ) (first mid put new : Pages) (name : Name) (columns : List Name) (number : ℕ) (payload : List ℕ) (replaced : Bool) →
    IsFirstPage page reserved first → IsPlain (record { name = name; columns = columns }) → IsEntry name columns number payload → AddsRoot first mid number →
    PutsRow mid put 1 (next_entry (empty_book page first.usable)) payload replaced → CookieChanges put new → AreSized page_size new →
    Becomes (empty_book page first.usable) new (with_table (empty_book page first.usable) name columns number)
