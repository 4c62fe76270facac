-- What a removal does to the pages of its way, from the leaf up.
-- After sqlite.org, "Database File Format", section 1.6, "B-tree Pages".
use Rattle.std.specs.Prelude.{◌≡◌, ◌≢◌, ◌⊎◌, ℕ, ◌+◌, ◌*◌, ◌≤◌, List, [], ◌∷◌, ◌++◌, length, reverse, Option, Some, None, IsTrue}
use Rattle.page_list.specs.Pages.{Pages}
use Rattle.page_list.specs.Edits.{taken_numbers}
use Rattle.page_pool.specs.Space.{SpaceState, Stays}
use Rattle.payload_chain.specs.Chains.{HasEach, TookEach, StopsTaking}
use Rattle.db_format.specs.declared.fault.SpaceFault.{SpaceFault}
use Rattle.tree_page.specs.declared.cell.InnerCell.{InnerCell}
use Rattle.tree_page.specs.declared.cell.PageCells.{PageCells}
use Rattle.tree_page.specs.declared.cell.PageCells.TheVariants.{Leaf, Interior}
use Rattle.tree_page.specs.Written.{Fits}
use Rattle.tree_model.specs.declared.level.Level.{Level}
use Rattle.tree_model.specs.declared.ends.Fault.{Fault}
use Rattle.tree_model.specs.Held.{HasCells}
use Rattle.tree_model.specs.Walk.{IsFault}
use Rattle.page_cut.specs.declared.parts.Sheet.{Sheet}
use Rattle.tree_plan.specs.Climb.{on, AreClimbed}
use Rattle.tree_write.specs.Climb.{IsPlanOf, spare}
use Rattle.tree_search.specs.Search.{SearchRefused}
use Rattle.tree_join.specs.declared.level.Left.{Left}
use Rattle.tree_join.specs.declared.level.Left.TheVariants.{Parts, Over, Nothing}
use Rattle.tree_join.specs.declared.pair.JoinPlan.{JoinPlan}
use Rattle.tree_join.specs.Join.{IsLeftOut, child_of, sibling_of, listed, IsJoin, IsUnjoined}
use Rattle.tree_remove.specs.declared.upward.Shrunk.{Shrunk}

-- the page above names no page beside this one: this one goes, and its one child is all that is left
pub record IsOnly (number : ℕ) (level : Level) (out others : List Sheet) (lost more : List ℕ) : Type 0 where
  pub none : level.cells ≡ []
  pub out_are : out ≡ others
  pub lost_are : lost ≡ number ∷ more

-- the page that has this one child left is joined with the page beside it
pub record Joins (pages : Pages) (child : ℕ) (level : Level) (plan : JoinPlan) (out others : List Sheet) (lost more : List ℕ) : Type 0 where
  pub some : 1 ≤ length level.cells
  pub cells : List InnerCell
  pub right : ℕ
  pub beside : HasCells pages (sibling_of level) (Interior cells right)
  pub is : IsJoin pages.usable level child cells right plan
  pub out_are : out ≡ plan.sheets.items ++ others
  pub lost_are : lost ≡ listed plan.lost ++ more

-- in damaged pages they cannot be joined: the page beside is no interior page, the page is not the child that its way took, or the keys do
-- not rise
abbrev pub CannotJoin : ℕ → ℕ → ℕ → Level → PageCells → Type 0
CannotJoin usable number child level (Leaf cells) = Unit {0}
CannotJoin usable number child level (Interior cells right) = (child_of level level.at ≢ number) ⊎ IsUnjoined usable level child cells right

-- then the page stays over its one child, without a cell
pub record IsAlone (pages : Pages) (number child : ℕ) (level : Level) (out : List Sheet) : Type 0 where
  pub some : 1 ≤ length level.cells
  pub cells : PageCells
  pub beside : HasCells pages (sibling_of level) cells
  pub cannot : CannotJoin pages.usable number child level cells
  pub out_are : out ≡ on number (Interior [] child) ∷ []

-- Where this is left of a page below these levels, the lowest first: the pages that are taken, in order, what is written, the pages that
-- are lost, and the one child that the root has left, if it has one.
abbrev pub AreShrunk : Pages → ℕ → Left → List Level → List ℕ → List Sheet → List ℕ → Option ℕ → Type 0
AreShrunk pages number (Parts sheets) levels taken out lost over = AreClimbed pages.usable number sheets levels taken out × (lost ≡ []) × (over ≡ None)
AreShrunk pages number Nothing [] taken out lost over = (taken ≡ []) × (out ≡ on number (Leaf []) ∷ []) × (lost ≡ []) × (over ≡ None)
AreShrunk pages number Nothing (level ∷ above) taken out lost over =
    (left : Left) × (more : List ℕ) × IsLeftOut pages.usable level left × (lost ≡ number ∷ more) × AreShrunk pages level.number left above taken out more over
AreShrunk pages number (Over child) [] taken out lost over = (taken ≡ []) × (out ≡ []) × (lost ≡ []) × (over ≡ Some child)
AreShrunk pages number (Over child) (level ∷ above) taken out lost over =
    ((others : List Sheet) × (more : List ℕ) × IsOnly number level out others lost more × AreShrunk pages level.number (Over child) above taken others more over)
    ⊎ (((plan : JoinPlan) × (others : List Sheet) × (more : List ℕ) × Joins pages child level plan out others lost more
    × AreShrunk pages level.number plan.left above taken others more over)
    ⊎ (IsAlone pages number child level out × (taken ≡ []) × (lost ≡ []) × (over ≡ None)))

-- so many pages were taken, one after the other, and where it is told, with these it is what becomes of the pages from this one up; the
-- levels are in order from the root down
pub record ShrunkTo (old new : SpaceState) (number : ℕ) (left : Left) (levels : List Level) (shrunk : Shrunk) : Type 0 where
  pub count : ℕ
  pub few : count ≤ length levels + 3
  pub took : TookEach old new count
  pub there : HasEach old.pages shrunk.lost.items
  pub are : IsTrue old.tells → AreShrunk old.pages number left (reverse levels) (taken_numbers old.page_size count old.pages) shrunk.out.items shrunk.lost.items shrunk.over

-- the page beside the child that the way took cannot be gone over, on one of these levels
pub record MeetsBeside (pages : Pages) (levels : List Level) (fault : Fault) : Type 0 where
  pub front : List Level
  pub level : Level
  pub back : List Level
  pub among : levels ≡ front ++ level ∷ back
  pub is : IsFault pages 1 level.number (sibling_of level) fault

-- fewer pages were taken than the way has interior pages, and the next take was refused; want of memory may come once all are taken
abbrev pub TakingRefused : SpaceState → SpaceState → List Level → SpaceFault → Type 0
TakingRefused old new levels fault = StopsTaking old new (length levels + 2 * spare fault) fault

-- why it was refused: nothing has changed, and a page beside cannot be gone over; or some pages were taken and the next take was refused
abbrev pub ShrinkRefused : SpaceState → SpaceState → List Level → SpaceFault → Type 0
ShrinkRefused old new levels fault = (Stays old new × SearchRefused old new (MeetsBeside old.pages levels) fault) ⊎ TakingRefused old new levels fault

-- the parts, where there are some, are those of the cells of a page, and one alone fits on it
abbrev pub IsLeftPlan : ℕ → ℕ → Left → Type 0
IsLeftPlan number usable (Parts sheets) = IsPlanOf number usable sheets × (sheets.front.items ≡ [] → Fits sheets.last number usable)
IsLeftPlan number usable (Over child) = Unit {0}
IsLeftPlan number usable Nothing = Unit {0}
