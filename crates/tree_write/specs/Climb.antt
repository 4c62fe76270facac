-- Pages taken for the parts of the pages on a path, and what these pages are to hold.
use Rattle.std.specs.Prelude.{ℕ, ◌+◌, ◌≤◌, List, length, reverse, IsTrue}
use Rattle.page_list.specs.Edits.{taken_numbers}
use Rattle.page_pool.specs.Space.{SpaceState}
use Rattle.payload_chain.specs.Chains.{TookEach, StopsTaking}
use Rattle.db_format.specs.declared.fault.SpaceFault.{SpaceFault}
use Rattle.db_format.specs.declared.fault.SpaceFault.TheVariants.{Failed, Memory, Bad, Corrupt, Large}
use Rattle.tree_page.specs.declared.cell.PageCells.{PageCells}
use Rattle.tree_page.specs.declared.cell.PageCells.TheVariants.{Interior}
use Rattle.tree_page.specs.Written.{Fits}
use Rattle.tree_model.specs.declared.level.Level.{Level}
use Rattle.page_cut.specs.declared.parts.Sheet.{Sheet}
use Rattle.page_cut.specs.declared.parts.Sheets.{Sheets}
use Rattle.page_cut.specs.Cut.{IsCut}
use Rattle.tree_plan.specs.Climb.{AreClimbed}

-- an interior page on the path: it has a number, its cells fit on it, and the path leaves it within them
pub record MayClimb (usable : ℕ) (level : Level) : Type 0 where
  pub least : 1 ≤ level.number
  pub fits : Fits (Interior level.cells level.right) level.number usable
  pub at : level.at ≤ length level.cells

-- the parts are those of the cells of a page
pub record IsPlanOf (number usable : ℕ) (sheets : Sheets) : Type 0 where
  pub whole : PageCells
  pub cut : IsCut number usable whole sheets

-- so many pages were taken, one after the other, and where it is told, with these the sheets are what is to be written
-- from this page up; the levels are in order from the root down
pub record Climbed (old new : SpaceState) (number : ℕ) (plan : Sheets) (levels : List Level) (sheets : List Sheet) : Type 0 where
  pub count : ℕ
  pub few : count ≤ length levels + 3
  pub took : TookEach old new count
  pub are : IsTrue old.tells → AreClimbed old.pages.usable number plan (reverse levels) (taken_numbers old.page_size count old.pages) sheets

-- want of memory may come once all pages are taken
abbrev pub spare : SpaceFault → ℕ
spare Failed = 0
spare Memory = 1
spare (Bad page kept found) = 0
spare (Corrupt page) = 0
spare (Large pages) = 0

-- fewer pages than these were taken, and the next take was refused, or there was no memory for what they are to hold
abbrev pub ClimbRefused : SpaceState → SpaceState → ℕ → SpaceFault → Type 0
ClimbRefused old new needed fault = StopsTaking old new (needed + spare fault) fault
