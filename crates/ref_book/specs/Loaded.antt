-- What the steps say by which a book is read from pages.
use Rattle.std.specs.Prelude.{◌≡◌, ℕ, List, ◌∷◌, ◌++◌, map, reverse, Option}
use Rattle.std.specs.List.{AllZip}
use Rattle.std.specs.FinMap as map
use Rattle.page_list.specs.Pages.{Pages, word}
use Rattle.page_list.specs.Freelist.{free_count}
use Rattle.db_format.specs.Header.{page_of}
use Rattle.db_format.specs.Schema.{Table as Found, IsTableOf, tables_in}
use Rattle.db_format.specs.declared.value.Value.{Value}
use Rattle.tree_model.specs.Tree.{Row as Stored, Tree}
use Rattle.tree_model.specs.Whole.{most_depth, named_pages}
use Rattle.tree_laws.specs.Whole.{missing_in}
use Rattle.ref_trees.specs.Gathered.{HasTree, HasRows}
use Rattle.ref_trees.specs.Forest.{HasForest, HasFreelist}
use Rattle.ref_schema.specs.Steps.{AreRecords}
use Rattle.book_model.specs.Book.{Name, Table, Book}
use Rattle.book_model.specs.Pages.{AreTables, IsTable, entries_of, foreign_in, once}

-- the rows of the schema, the records that they are, and the plain table of each, where it makes one
pub record IsSchema (pages : Pages) (rows : List Stored) (records : List (List Value)) (found : List (Option Found)) : Type 0 where
  pub has : HasRows pages 1 rows
  pub are : AreRecords rows records
  pub plain : AllZip (IsTableOf pages.size records) records found

-- the pages hold a tree from the root of a table
abbrev pub HasTreeOf : Pages → Found → Tree → Type 0
HasTreeOf pages table tree = HasTree pages most_depth table.root tree

-- a table of a book, as the pages hold it
pub record IsHeld (pages : Pages) (entry : Stored) (found : Found) (table : Name × Table) : Type 0 where
  pub tree : Tree
  pub has_tree : HasTreeOf pages found tree
  pub is : IsTable entry found tree table.0 table.1

-- the tables of a book, as the pages hold them
pub record AreHeld (pages : Pages) (rows : List Stored) (found : List (Option Found)) (tables : List (Name × Table)) : Type 0 where
  pub trees : List Tree
  pub has_trees : AllZip (HasTreeOf pages) (tables_in found) trees
  pub are : AreTables rows found trees tables

-- the same where they stand behind others
pub record AreHeldBehind (pages : Pages) (rows : List Stored) (found : List (Option Found)) (old new : List (Name × Table)) : Type 0 where
  pub tables : List (Name × Table)
  pub held : AreHeld pages rows found tables
  pub behind : new ≡ old ++ tables

-- the pages that are named, where there are trees from these roots and a freelist
abbrev pub AreNamed : Pages → List ℕ → List ℕ → Type 0
AreNamed pages roots named = HasForest pages roots (λ trees. HasFreelist pages (λ trunks. named ≡ named_pages roots trees trunks))

-- the roots of the schema and of the plain tables
abbrev pub roots_in : List (Option Found) → List ℕ
roots_in found = 1 ∷ map (λ table. table.root) (tables_in found)

-- the pages that are not among these, with their bytes
abbrev pub unnamed_in : Pages → List ℕ → List (ℕ × List ℕ)
unnamed_in pages named = map (λ n. (n, pages.bytes n)) (reverse (missing_in named pages.size))

-- the numbers of a book
pub record AreNumbers (pages : Pages) (counter size free page usable : ℕ) : Type 0 where
  pub counter_is : counter ≡ word pages 1 24
  pub size_is : size ≡ pages.size
  pub free_is : free ≡ free_count pages
  pub page_is : page ≡ page_of (pages.bytes 1)
  pub usable_is : usable ≡ pages.usable

-- a book has what was read from the pages
pub record IsPut (pages : Pages) (rows : List Stored) (records : List (List Value)) (found : List (Option Found)) (tables : List (Name × Table)) (named : List ℕ) (book : Book) : Type 0 where
  pub tables_are : book.tables ≡ map.from_entries tables
  pub foreign_are : book.foreign ≡ once (foreign_in records found)
  pub schema_is : book.schema ≡ map.from_entries (entries_of 5 rows records)
  pub unnamed_are : book.unnamed ≡ unnamed_in pages named
  pub numbers : AreNumbers pages book.counter book.pages book.free book.page book.usable
