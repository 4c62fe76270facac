-- The steps of a put: the cell of the row is written, put into the leaf that the search found, and the chain of the cell
-- that it replaced is given back.
-- After sqlite.org, "Database File Format", section 1.6, "B-tree Pages".
use Rattle.std.specs.Prelude.{◌≡◌, ◌⊎◌, ℕ, ◌+◌, ◌-◌, ◌≤◌, ℤ, List, [], length, take, drop, Option, Some, None, Ok, Err}
use Rattle.db_format.specs.Spill.{local_size}
use Rattle.db_format.specs.declared.fault.SpaceFault.{SpaceFault}
use Rattle.db_format.specs.declared.fault.SpaceFault.TheVariants.{Memory}
use Rattle.page_pool.specs.Space.{SpaceState, Steady, Stays}
use Rattle.payload_chain.specs.Chains.{Midway, midway, Wrote, WriteRefused, Freed, FreeRefused, PutRefused}
use Rattle.tree_page.specs.declared.cell.LeafCell.{LeafCell}
use Rattle.tree_page.specs.Written.{KeepsLocal}
use Rattle.page_cut.specs.declared.parts.Sheet.{Sheet}
use Rattle.tree_level.specs.Level.{numbers}
use Rattle.tree_plan.specs.declared.leaf.LeafPlan.{LeafPlan}
use Rattle.tree_plan.specs.Plan.{IsLeafPlan}
use Rattle.tree_search.specs.declared.path.Descent.{Descent}
use Rattle.tree_write.specs.Climb.{Climbed, ClimbRefused}
use Rattle.tree_write.specs.Write.{WriteLeaves, NotesSheets}

-- what of a payload its cell keeps, and the rest
abbrev pub local_part : ℕ → List ℕ → List ℕ
local_part usable payload = take (local_size usable (length payload)) payload

abbrev pub rest_part : ℕ → List ℕ → List ℕ
rest_part usable payload = drop (local_size usable (length payload)) payload

-- the rest of a payload was written to a chain, of which this is the first page: none, where there is no rest
abbrev pub RestWritten : SpaceState → SpaceState → List ℕ → ℕ → Type 0
RestWritten old new rest first = ((rest ≡ []) × (first ≡ 0) × Stays old new) ⊎ ((1 ≤ length rest) × Wrote old new first rest)

abbrev pub RestRefused : SpaceState → SpaceState → List ℕ → SpaceFault → Type 0
RestRefused old new rest fault = (1 ≤ length rest) × WriteRefused old new rest fault

-- the cell of the row with this payload, whose rest was written
pub record CellWritten (old new : SpaceState) (rowid : ℤ) (payload : List ℕ) (cell : LeafCell) : Type 0 where
  pub keyed : cell.rowid ≡ rowid
  pub long : cell.payload_len ≡ length payload
  pub keeps : cell.local ≡ local_part old.pages.usable payload
  pub sound : KeepsLocal old.pages.usable cell
  pub steady : Steady old new
  pub rest : RestWritten old new (rest_part old.pages.usable payload) cell.overflow

-- why it was not: there was no memory for what the cell keeps, and then nothing has changed, or the chain was refused
abbrev pub CellRefused : SpaceState → SpaceState → List ℕ → SpaceFault → Type 0
CellRefused old new payload fault = ((fault ≡ Memory) × Stays old new) ⊎ RestRefused old new (rest_part old.pages.usable payload) fault

-- a cell was put into the leaf: that was planned, pages were taken for its parts and for those of the pages above, and all
-- that these are to hold was written
pub record CellPlaced (old new : SpaceState) (descent : Descent) (cell : LeafCell) (replaced : Option LeafCell) : Type 0 where
  pub plan : LeafPlan
  pub planned : IsLeafPlan descent.leaf old.pages.usable descent.cells cell plan
  pub replaced_is : replaced ≡ plan.replaced
  pub sheets : List Sheet
  pub met : Midway
  pub climbed : Climbed old (midway old met) descent.leaf plan.sheets descent.levels.items sheets
  pub steady : Steady old new
  pub size : new.pages.size ≡ met.pages.size
  pub leaves : WriteLeaves (midway old met) new sheets (Ok tt)
  -- the space says that it was changed where one of the sheets may stand
  pub notes : NotesSheets (midway old met) new sheets

-- some of the pages were taken, and the next take was refused, or there was no memory
pub record StopsClimbing (old new : SpaceState) (descent : Descent) (cell : LeafCell) (fault : SpaceFault) : Type 0 where
  pub plan : LeafPlan
  pub planned : IsLeafPlan descent.leaf old.pages.usable descent.cells cell plan
  pub refused : ClimbRefused old new (length plan.sheets.front.items + length descent.levels.items + 1) fault

-- all pages were taken, and one that is to be written was refused
pub record StopsWriting (old new : SpaceState) (descent : Descent) (cell : LeafCell) (fault : SpaceFault) : Type 0 where
  pub plan : LeafPlan
  pub planned : IsLeafPlan descent.leaf old.pages.usable descent.cells cell plan
  pub sheets : List Sheet
  pub met : Midway
  pub climbed : Climbed old (midway old met) descent.leaf plan.sheets descent.levels.items sheets
  pub size : new.pages.size ≡ met.pages.size
  pub leaves : WriteLeaves (midway old met) new sheets (Err fault)
  pub refused : PutRefused (midway old met) new (numbers sheets) fault

-- why a cell was not put into the leaf, and what stands then
abbrev pub PlaceRefused : SpaceState → SpaceState → Descent → LeafCell → SpaceFault → Type 0
PlaceRefused old new descent cell fault =
    ((fault ≡ Memory) × Stays old new) ⊎ (StopsClimbing old new descent cell fault ⊎ StopsWriting old new descent cell fault)

-- how much of the payload of a cell its chain has
abbrev pub chained_len : LeafCell → ℕ
chained_len cell = cell.payload_len - length cell.local

-- the chain of the cell that was replaced, if there was one, was given back
abbrev pub ReplacedFreed : SpaceState → SpaceState → Option LeafCell → Type 0
ReplacedFreed old new None = Stays old new
ReplacedFreed old new (Some cell) = Freed old new cell.overflow (chained_len cell)

abbrev pub FreeingRefused : SpaceState → SpaceState → Option LeafCell → SpaceFault → Type 0
FreeingRefused old new None fault = ⊥
FreeingRefused old new (Some cell) fault = FreeRefused old new cell.overflow (chained_len cell) fault
