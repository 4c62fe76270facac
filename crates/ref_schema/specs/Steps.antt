-- Words of the steps by which a schema is read. Only these steps speak by them.
use Rattle.std.specs.Prelude.{◌≡◌, ℕ, ℤ, List, [], ◌∷◌, length, Option, Some, slice_get}
use Rattle.std.specs.List.{AllByRecursion, AllZip}
use Rattle.page_list.specs.Pages.{Pages}
use Rattle.db_format.specs.Record.{IsRecord}
use Rattle.db_format.specs.declared.value.Value.{Value}
use Rattle.db_format.specs.declared.value.Value.TheVariants.{Int, Text}
use Rattle.tree_model.specs.Tree.{Row, Tree}
use Rattle.tree_model.specs.Whole.{most_depth}
use Rattle.ref_trees.specs.Gathered.{HasTree}
use Rattle.db_format.specs.Schema.{Table, IsTableOf, tables_in, IsSchemaRow, HasRootWithin}
use Rattle.tree_model.specs.Database.{HasRecords}

-- the payloads of the rows are these records
abbrev pub AreRecords : List Row → List (List Value) → Type 0
AreRecords rows records = AllZip (λ row values. IsRecord row.payload values) rows records

-- a row of the schema has the values that one has, and a root within so many pages
abbrev pub IsSound : ℕ → List Value → Type 0
IsSound size values = IsSchemaRow values × HasRootWithin size values

-- these are the tables that the rows of the schema make
pub record AreTables (size : ℕ) (schema rows : List (List Value)) (tables : List Table) : Type 0 where
  pub found : List (Option Table)
  pub plain : AllZip (IsTableOf size schema) rows found
  pub tables_are : tables ≡ tables_in found

-- five values, of which the first is this text and the fourth this integer
pub record HasKind (values : List Value) (kind : List ℕ) (root : ℤ) : Type 0 where
  pub five : length values ≡ 5
  pub kind_at : slice_get values 0 ≡ Some (Text kind)
  pub root_at : slice_get values 3 ≡ Some (Int root)

-- the pages hold a tree from the root of a table, and its rows are records
pub record HasRecordsIn (pages : Pages) (table : Table) : Type 0 where
  pub tree : Tree
  pub has_tree : HasTree pages most_depth table.root tree
  pub records : HasRecords table tree

-- the same of each table
abbrev pub HaveRecords : Pages → List Table → Type 0
HaveRecords pages tables = AllByRecursion (HasRecordsIn pages) tables
