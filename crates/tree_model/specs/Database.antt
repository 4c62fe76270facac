-- Whole databases: the schema says which trees there are, and every payload is a record.
-- After sqlite.org, "Database File Format", section 2.6, "Storage Of The SQL Database Schema".
use Rattle.std.specs.Prelude.{◌≡◌, ◌⊎◌, List, ◌∷◌, length, map, Option}
use Rattle.std.specs.List.{AllByRecursion, AllZip}
use Rattle.page_list.specs.Pages.{Pages}
use Rattle.page_list.specs.Freelist.{Trunk}
use Rattle.db_format.specs.Record.{IsRecord}
use Rattle.db_format.specs.Schema.{Table, IsTableOf, tables_in, NamesDiffer, IsSchemaRow, HasRootWithin, IsRecordOf}
use Rattle.db_format.specs.declared.value.Value.{Value}
use Rattle.tree_model.specs.Tree.{Tree, rows_of}
use Rattle.tree_model.specs.Whole.{IsWholeFor}

-- every row of the table's tree is such a record
abbrev pub HasRecords : Table → Tree → Type 0
HasRecords table tree = AllByRecursion (λ row. IsRecordOf (length table.create.columns) row.payload) (rows_of tree)

-- a database with a page is whole, with this schema tree, its rows, the table of each where it makes one, and the trees
-- of these tables
pub record IsWholeDatabase (pages : Pages) (schema : Tree) (rows : List (List Value)) (found : List (Option Table)) (trees : List Tree) (trunks : List Trunk) : Type 0 where
  pub whole : IsWholeFor pages (1 ∷ map (λ table. table.root) (tables_in found)) (schema ∷ trees) trunks
  pub schema_rows : AllZip (λ row values. IsRecord row.payload values) (rows_of schema) rows
  pub five : AllByRecursion IsSchemaRow rows
  pub roots_within : AllByRecursion (HasRootWithin pages.size) rows
  pub plain : AllZip (IsTableOf pages.size rows) rows found
  pub once : NamesDiffer (tables_in found)
  pub records : AllZip HasRecords (tables_in found) trees

-- a database is whole: it has no page, or is so for some schema
pub record IsWitness (pages : Pages) : Type 0 where
  pub schema : Tree
  pub rows : List (List Value)
  pub found : List (Option Table)
  pub trees : List Tree
  pub trunks : List Trunk
  pub is_whole : IsWholeDatabase pages schema rows found trees trunks

abbrev pub IsWhole : Pages → Type 0
IsWhole pages = (pages.size ≡ 0) ⊎ IsWitness pages
