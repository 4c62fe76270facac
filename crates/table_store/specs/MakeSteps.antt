-- Words that only the steps of a table made use.
use Rattle.std.specs.Prelude.{◌≡◌, ℕ, ◌-◌, IsTrue, List, [], length}
use Rattle.db_format.specs.Header.{IsNew, ReadsNew}
use Rattle.page_pool.specs.Space.{SpaceState, IsZeroFrom}
use Rattle.tree_page.specs.Page.{IsPage}
use Rattle.tree_page.specs.declared.cell.PageCells.TheVariants.{Leaf as LeafPage}
use Rattle.tree_search.specs.Search.{SearchRefused}
use Rattle.book_model.specs.Book.{Name}
use Rattle.book_reads.specs.Reads.{SchemaMeets}
use Rattle.table_store.specs.Made.{IsTakenIn}
use Rattle.table_store.specs.declared.fault.TableFault.{TableFault}
use Rattle.table_store.specs.declared.fault.TableFault.TheVariants.{NoTable, Foreign, Exists, Columns, TooLong, Space}

-- the bytes of page 1 of a database that has no table yet: a leaf without a row behind a new header, and zeros from the usable size on
pub record BeginsWith (page_size usable : ℕ) (bytes : List ℕ) : Type 0 where
  pub long : length bytes ≡ page_size
  pub header : IsNew page_size (page_size - usable) bytes
  pub reads : ReadsNew page_size (page_size - usable) bytes
  pub cells : IsPage bytes 1 usable (LeafPage [])
  pub zeros : IsZeroFrom bytes usable

-- why there is no rowid for the row of a new table of this name
abbrev pub NameRefused : SpaceState → SpaceState → Name → TableFault → Type 0
NameRefused old new name NoTable = ⊥
NameRefused old new name Foreign = ⊥
NameRefused old new name Exists = IsTrue old.tells → IsTakenIn old.pages name
NameRefused old new name Columns = ⊥
NameRefused old new name TooLong = ⊥
NameRefused old new name (Space fault) = SearchRefused old new (SchemaMeets old.pages) fault
