-- Words for the steps inside the crate; no contract of a function that it shows to others needs them.
use Rattle.std.specs.Prelude.{◌≡◌, ◌⊎◌, ℕ, zero, suc, ◌+◌, ◌≤◌, ℤ, pos, ◌<ℤ◌, List, [], ◌∷◌, ◌++◌, length, Option, Some, None, IsTrue}
use Rattle.page_list.specs.Edits.{taken_numbers}
use Rattle.page_pool.specs.Space.{SpaceState}
use Rattle.payload_chain.specs.Chains.{TookEach}
use Rattle.tree_page.specs.declared.cell.InnerCell.{InnerCell}
use Rattle.tree_model.specs.declared.level.Level.{Level}
use Rattle.page_cut.specs.declared.parts.Sheet.{Sheet}
use Rattle.page_cut.specs.declared.parts.Sheets.{Sheets}
use Rattle.tree_level.specs.Level.{numbers}
use Rattle.tree_plan.specs.Plan.{IsInnerPlan}
use Rattle.tree_plan.specs.Law.{AreNumbered}
use Rattle.tree_plan.specs.Climb.{on, Rises, RootSettles}

-- the last key of some cells
abbrev pub last_key : ℤ → List InnerCell → ℤ
last_key low [] = low
last_key low (cell ∷ more) = last_key cell.rowid more

-- the key behind the part at a place
abbrev pub key_at : List Sheet → ℕ → ℤ
key_at [] at = pos 0
key_at (sheet ∷ more) zero = sheet.key
key_at (sheet ∷ more) (suc at) = key_at more at

-- the last of the cells, if there is one, is below a key; the first, if there is one, is above it
abbrev pub EndsBelow : List InnerCell → ℤ → Type 0
EndsBelow [] key = Unit {0}
EndsBelow (cell ∷ more) key = last_key cell.rowid more <ℤ key

abbrev pub BeginsAbove : ℤ → List InnerCell → Type 0
BeginsAbove key [] = Unit {0}
BeginsAbove key (cell ∷ more) = key <ℤ cell.rowid

-- the parts before the last one have pages that were taken for them
pub record ArePlaced (old new : SpaceState) (front placed : List Sheet) : Type 0 where
  pub took : TookEach old new (length front)
  pub numbered : AreNumbered front placed
  pub are : IsTrue old.tells → numbers placed ≡ taken_numbers old.page_size (length front) old.pages

-- the plan of the page above, where cells come up and have their place there
abbrev pub IsNext : ℕ → Level → List Sheet → Option Sheets → Type 0
IsNext usable level front None = (front ≡ []) ⊎ ((1 ≤ length front) × ¬ (Rises level front))
IsNext usable level front (Some next) = (1 ≤ length front) × Rises level front × IsInnerPlan usable level front next

-- one page below another is settled: its parts have pages, are put behind what is to be written, and the page above is
-- planned
pub record StepsUp (old new : SpaceState) (number usable : ℕ) (sheets : Sheets) (level : Level) (before after : List Sheet) (next : Option Sheets) : Type 0 where
  pub front : List Sheet
  pub placed : ArePlaced old new sheets.front.items front
  pub behind : after ≡ before ++ (front ++ on number sheets.last ∷ [])
  pub next_is : IsNext usable level front next

-- the root is settled
pub record RootSettled (old new : SpaceState) (root usable : ℕ) (sheets : Sheets) (before after : List Sheet) : Type 0 where
  pub count : ℕ
  pub few : count ≤ length sheets.front.items + 1
  pub took : TookEach old new count
  pub others : List Sheet
  pub behind : after ≡ before ++ others
  pub are : IsTrue old.tells → RootSettles usable root sheets (taken_numbers old.page_size count old.pages) others
