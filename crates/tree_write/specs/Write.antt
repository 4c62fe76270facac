-- Pages written from lists of cells.
-- After sqlite.org, "Database File Format", section 1.6, "B-tree Pages".
use Rattle.std.specs.Prelude.{◌≡◌, ℕ, List, length, take, IsTrue, Some, Result, Ok, Err}
use Rattle.std.specs.List.{AllByRecursion}
use Rattle.page_list.specs.Pages.{Pages, HasPage, IsGood, AllDifferent}
use Rattle.page_pool.specs.Space.{SpaceState}
use Rattle.payload_chain.specs.Chains.{OnlyThese}
use Rattle.db_format.specs.declared.fault.SpaceFault.{SpaceFault}
use Rattle.tree_page.specs.Written.{Fits}
use Rattle.tree_model.specs.Held.{HasCells}
use Rattle.page_cut.specs.declared.parts.Sheet.{Sheet}
use Rattle.tree_level.specs.Level.{numbers}

-- the page of the sheet is there, and its cells fit on it
pub record MayStand (pages : Pages) (sheet : Sheet) : Type 0 where
  pub there : HasPage pages sheet.number
  pub fits : Fits sheet.cells sheet.number pages.usable

-- no page but those of the sheets has changed, each page keeps its length, a page that was good is, one that fails failed
-- so before, and page 1 keeps the header of the database
pub record OnlySheets (old new : Pages) (sheets : List Sheet) : Type 0 where
  pub only : OnlyThese old new (numbers sheets)
  pub used : new.usable ≡ old.usable
  pub long : (number : ℕ) → length (new.bytes number) ≡ length (old.bytes number)
  pub good : (number : ℕ) → IsGood old number → IsGood new number
  pub bad : (number : ℕ) (sums : ℕ × ℕ) → new.bad number ≡ Some sums → old.bad number ≡ Some sums
  pub front : take 100 (new.bytes 1) ≡ take 100 (old.bytes 1)

-- each sheet that may stand is written: its page is good, and has its cells where no two sheets are of one page
pub record Wrote (old new : Pages) (sheets : List Sheet) : Type 0 where
  pub only : OnlySheets old new sheets
  pub good : AllByRecursion (λ sheet. MayStand old sheet → IsGood new sheet.number) sheets
  pub each : AllDifferent (numbers sheets) → AllByRecursion (λ sheet. MayStand old sheet → HasCells new sheet.number sheet.cells) sheets

-- what stands then: all is written, or, after a refusal, only pages of the sheets have changed
abbrev pub WriteLeaves : SpaceState → SpaceState → List Sheet → Result Unit SpaceFault → Type 0
WriteLeaves old new sheets (Ok _) = IsTrue old.tells → Wrote old.pages new.pages sheets
WriteLeaves old new sheets (Err fault) = IsTrue old.tells → OnlySheets old.pages new.pages sheets

-- the space says that it was changed where one of the sheets may stand
abbrev pub NotesSheets : SpaceState → SpaceState → List Sheet → Type 0
NotesSheets old new sheets = AllByRecursion (λ sheet. MayStand old.pages sheet → IsTrue new.changed) sheets
