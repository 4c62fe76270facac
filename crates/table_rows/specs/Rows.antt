-- The rows of a table, in pages of any bytes, with the values that their payloads are records of.
-- After sqlite.org, "Database File Format", sections 1.6, "B-tree Pages", and 2.1, "Record Format".
use Rattle.std.specs.Prelude.{◌≡◌, ℕ, ℤ, negsuc, ◌≤ℤ◌, List, [], length, Option, Some, None}
use Rattle.std.specs.List.{AllZip}
use Rattle.page_list.specs.Pages.{Pages}
use Rattle.db_format.specs.Record.{IsRecord}
use Rattle.db_format.specs.declared.value.Value.{Value}
use Rattle.tree_model.specs.declared.ends.Fault.{Fault}
use Rattle.tree_model.specs.declared.ends.PathEnd.TheVariants.{HasPayload, NoRow}
use Rattle.tree_model.specs.declared.ends.WalkEnd.{WalkEnd}
use Rattle.tree_model.specs.declared.ends.WalkEnd.TheVariants.{End, StopsAt}
use Rattle.tree_model.specs.Whole.{greatest}
use Rattle.tree_model.specs.Walk.{Path, IsNext, Walk}

-- the path of a rowid finds a payload that is a record of these values, or no row
abbrev pub FindsRecord : ℕ → Pages → ℕ → ℤ → Option (List Value) → Type 0
FindsRecord columns pages root rowid None = Path (Some columns) pages root rowid NoRow
FindsRecord columns pages root rowid (Some values) =
    (payload : List ℕ) × Path (Some columns) pages root rowid (HasPayload payload) × IsRecord payload values

-- the next row of a walk, with the values that its payload is a record of
pub record IsNextRecord (columns : ℕ) (pages : Pages) (root : ℕ) (from to : ℤ) (row : ℤ × List Value) : Type 0 where
  pub in_range : from ≤ℤ to
  pub payload : List ℕ
  pub next : IsNext (Some columns) pages root to from (row.0, payload)
  pub is_record : IsRecord payload row.1

-- or the walk ends before any
abbrev pub HasNextRecord : ℕ → Pages → ℕ → ℤ → ℤ → Option (ℤ × List Value) → Type 0
HasNextRecord columns pages root from to None = Walk (Some columns) pages root from to [] End
HasNextRecord columns pages root from to (Some row) = IsNextRecord columns pages root from to row

-- rows as they are stored, and what their payloads are records of, one by one
abbrev pub AreRecords : List (ℤ × List ℕ) → List (ℤ × List Value) → Type 0
AreRecords stored rows = AllZip (λ s r. (r.0 ≡ s.0) × IsRecord s.1 r.1) stored rows

-- a walk gives rows that are these records, and ends so
pub record WalksOver (columns : ℕ) (pages : Pages) (root : ℕ) (from to : ℤ) (rows : List (ℤ × List Value)) (end : WalkEnd) : Type 0 where
  pub stored : List (ℤ × List ℕ)
  pub walks : Walk (Some columns) pages root from to stored end
  pub records : AreRecords stored rows

-- it stops at a fault, after rows that are records
pub record StopsAfter (columns : ℕ) (pages : Pages) (root : ℕ) (from to : ℤ) (fault : Fault) : Type 0 where
  pub rows : List (ℤ × List Value)
  pub over : WalksOver columns pages root from to rows (StopsAt fault)

-- the least rowid
abbrev pub least : ℤ
least = negsuc 9223372036854775807

-- the walk over all rowids gives so many rows, which are records
pub record CountsRows (columns : ℕ) (pages : Pages) (root count : ℕ) : Type 0 where
  pub rows : List (ℤ × List Value)
  pub over : WalksOver columns pages root least greatest rows End
  pub counted : count ≡ length over.stored
