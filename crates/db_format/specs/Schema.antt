-- What the rows of a schema say: which make plain tables, and what every one of them has.
-- After sqlite.org, "Database File Format", section 2.6, "Storage Of The SQL Database Schema".
use Rattle.std.specs.Prelude.{◌≡◌, ◌≢◌, ◌⊎◌, ℕ, ◌≤◌, ℤ, pos, ◌≤ℤ◌, List, [], ◌∷◌, length, codes, Option, Some, None, IsTrue, ⊤}
use Rattle.std.specs.Str.{str_eq_ignore_ascii_case}
use Rattle.std.specs.List.{AllByRecursion}
use Rattle.db_format.specs.Record.{IsRecord}
use Rattle.db_format.specs.Create.{Spells}
use Rattle.db_format.specs.declared.create.Create.{Create}
use Rattle.db_format.specs.declared.value.Value.{Value}
use Rattle.db_format.specs.declared.value.Value.TheVariants.{Int, Text}

-- a plain table: the root of its tree, and what its text spells
pub record Table : Type 0 where
  pub root : ℕ
  pub create : Create

-- a row of the schema is that of an index or a trigger on the table of this name, in letters of either case
pub record IsOn (values : List Value) (table : List ℕ) : Type 0 where
  pub kind : List ℕ
  pub is_kind : (kind ≡ codes "index") ⊎ (kind ≡ codes "trigger")
  pub name : Value
  pub on : List ℕ
  pub more : List Value
  pub values_are : values ≡ Text kind ∷ name ∷ Text on ∷ more
  pub same : IsTrue (str_eq_ignore_ascii_case on table)

-- a row of the schema makes a plain table: its type, its name twice, a root within so many pages, and a plain text
-- of that name; and no row of an index or a trigger is on it
pub record IsPlainRow (size : ℕ) (schema : List (List Value)) (values : List Value) (table : Table) : Type 0 where
  pub sql : List ℕ
  pub values_are : values ≡ Text (codes "table") ∷ Text table.create.name ∷ Text table.create.name ∷ Int (pos table.root) ∷ Text sql ∷ []
  pub least : 2 ≤ table.root
  pub most : table.root ≤ size
  pub spelled : Spells sql table.create
  pub alone : AllByRecursion (λ other. ¬ (IsOn other table.create.name)) schema

-- the plain table of each row of the schema, where it makes one
abbrev pub IsTableOf : ℕ → List (List Value) → List Value → Option Table → Type 0
IsTableOf size schema values (Some table) = IsPlainRow size schema values table
IsTableOf size schema values None = (table : Table) → ¬ (IsPlainRow size schema values table)

abbrev pub tables_in : List (Option Table) → List Table
tables_in [] = []
tables_in (None ∷ more) = tables_in more
tables_in (Some table ∷ more) = table ∷ tables_in more

-- no table has the name of a later one
abbrev pub NamesDiffer : List Table → Type 0
NamesDiffer [] = ⊤
NamesDiffer (table ∷ more) = AllByRecursion (λ other. other.create.name ≢ table.create.name) more × NamesDiffer more

-- a row of the schema has five values, and its type is a text
pub record IsSchemaRow (values : List Value) : Type 0 where
  pub five : length values ≡ 5
  pub kind : List ℕ
  pub more : List Value
  pub typed : values ≡ Text kind ∷ more

-- where it is that of a table and has an integer as its root, the root is not past so many pages
pub record HasRootWithin (size : ℕ) (values : List Value) : Type 0 where
  pub within : (name table text : Value) (root : ℤ) → values ≡ Text (codes "table") ∷ name ∷ table ∷ Int root ∷ text ∷ [] → root ≤ℤ pos size

-- the payload is a record with at most so many values
pub record IsRecordOf (columns : ℕ) (payload : List ℕ) : Type 0 where
  pub values : List Value
  pub is_record : IsRecord payload values
  pub few : length values ≤ columns
