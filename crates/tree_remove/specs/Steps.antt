-- Words for the steps inside the crate.
use Rattle.std.specs.Prelude.{◌≡◌, ◌⊎◌, ℕ, zero, suc, ◌+◌, ◌≤◌, List, [], ◌∷◌, ◌++◌, length, Option, Some, None, Result, Ok, Err}
use Rattle.page_list.specs.Pages.{Pages}
use Rattle.page_pool.specs.Space.{SpaceState}
use Rattle.tree_page.specs.declared.cell.InnerCell.{InnerCell}
use Rattle.tree_page.specs.declared.cell.PageCells.{PageCells}
use Rattle.tree_page.specs.declared.cell.PageCells.TheVariants.{Leaf, Interior}
use Rattle.tree_model.specs.declared.level.Level.{Level}
use Rattle.tree_model.specs.Held.{HasCells}
use Rattle.page_cut.specs.declared.parts.Sheet.{Sheet}
use Rattle.page_cut.specs.declared.parts.Sheets.{Sheets}
use Rattle.tree_plan.specs.Climb.{on}
use Rattle.tree_write.specs.Climb.{Climbed}
use Rattle.tree_join.specs.declared.level.Left.{Left}
use Rattle.tree_join.specs.declared.level.Left.TheVariants.{Parts, Over, Nothing}
use Rattle.tree_join.specs.declared.pair.JoinPlan.{JoinPlan}
use Rattle.tree_join.specs.Join.{IsLeftOut, sibling_of, IsJoin}
use Rattle.tree_remove.specs.declared.beside.Risen.{Risen}
use Rattle.tree_remove.specs.declared.upward.Shrunk.{Shrunk}
use Rattle.tree_remove.specs.Shrink.{CannotJoin}

-- a page goes, and this is left of the page above
pub record Goes (number : ℕ) (left : Left) (risen : Risen) : Type 0 where
  pub sheets : risen.sheets.items ≡ []
  pub lost : risen.lost ≡ Some number
  pub next : risen.next ≡ Some left

-- a page stays over its one child, and nothing above changes
pub record StaysAlone (number child : ℕ) (risen : Risen) : Type 0 where
  pub sheets : risen.sheets.items ≡ on number (Interior [] child) ∷ []
  pub lost : risen.lost ≡ None
  pub next : risen.next ≡ None

-- two pages were joined
pub record JoinsWith (usable child : ℕ) (level : Level) (cells : PageCells) (risen : Risen) : Type 0 where
  pub inner : List InnerCell
  pub right : ℕ
  pub of : cells ≡ Interior inner right
  pub plan : JoinPlan
  pub is : IsJoin usable level child inner right plan
  pub sheets : risen.sheets.items ≡ plan.sheets.items
  pub lost : risen.lost ≡ plan.lost
  pub next : risen.next ≡ Some plan.left

-- a page with one child left, where the page beside it has these cells
abbrev pub IsJoinedWith : ℕ → ℕ → ℕ → Level → PageCells → Risen → Type 0
IsJoinedWith usable number child level cells risen =
    (CannotJoin usable number child level cells × StaysAlone number child risen) ⊎ JoinsWith usable child level cells risen

-- the page, or the one beside it
abbrev pub IsOneOfPair : ℕ → Level → ℕ → Type 0
IsOneOfPair number level page = (page ≡ number) ⊎ (page ≡ sibling_of level)

-- what the page beside has, and what becomes of the two
pub record IsBeside (pages : Pages) (number child : ℕ) (level : Level) (risen : Risen) : Type 0 where
  pub some : 1 ≤ length level.cells
  pub cells : PageCells
  pub has : HasCells pages (sibling_of level) cells
  pub joined : IsJoinedWith pages.usable number child level cells risen

-- what becomes of a page with this child left, or none, and of the page above
abbrev pub IsRise : Pages → ℕ → Option ℕ → Level → Risen → Type 0
IsRise pages number None level risen = (left : Left) × IsLeftOut pages.usable level left × Goes number left risen
IsRise pages number (Some child) level risen = ((level.cells ≡ []) × Goes number (Over child) risen) ⊎ IsBeside pages number child level risen

-- a page that loses a child stays on itself, and the page above two that were joined is cut in two at most
abbrev pub most_more : Option ℕ → ℕ
most_more None = 0
most_more (Some child) = 1

abbrev pub HasFewParts : Option ℕ → Left → Type 0
HasFewParts child (Parts sheets) = length sheets.front.items ≤ most_more child
HasFewParts child (Over page) = Unit {0}
HasFewParts child Nothing = Unit {0}

-- what is left of the leaf is on its page, and is no child
abbrev pub IsLeftOfLeaf : Left → Type 0
IsLeftOfLeaf (Parts sheets) = sheets.front.items ≡ []
IsLeftOfLeaf (Over child) = ⊥
IsLeftOfLeaf Nothing = Unit {0}

-- so many pages are taken at most for a page with these parts below so many levels: none for one part
abbrev pub most_taken : ℕ → ℕ → ℕ
most_taken zero levels = 0
most_taken (suc front) levels = front + levels + 2

abbrev pub left_as : Option ℕ → Left
left_as None = Nothing
left_as (Some child) = Over child

-- the one child that is left, if there is one, or the parts
abbrev pub IsOneChild : Left → Result (Option ℕ) Sheets → Type 0
IsOneChild left (Ok child) = left ≡ left_as child
IsOneChild left (Err sheets) = left ≡ Parts sheets

-- a root without a child is a leaf without a row
abbrev pub root_sheets : ℕ → Option ℕ → List Sheet
root_sheets number None = on number (Leaf []) ∷ []
root_sheets number (Some child) = []

-- what the page and those above it are to hold comes behind
pub record ClimbedOn (old new : SpaceState) (number : ℕ) (plan : Sheets) (levels : List Level) (before after : Shrunk) : Type 0 where
  pub more : List Sheet
  pub climbed : Climbed old new number plan levels more
  pub out : after.out.items ≡ before.out.items ++ more
  pub lost : after.lost.items ≡ before.lost.items
  pub over : after.over ≡ before.over
