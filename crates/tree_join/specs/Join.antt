-- An interior page that loses the child which the way took, and two pages beside each other that are joined.
-- After sqlite.org, "Database File Format", section 1.6, "B-tree Pages".
use Rattle.std.specs.Prelude.{◌≡◌, ◌⊎◌, ℕ, suc, ◌-◌, ◌≤◌, nat_lt, if◌then◌else◌, ℤ, List, [], ◌∷◌, ◌++◌, length, map, take, drop, Option, Some, None, slice_index_or}
use Rattle.tree_page.specs.declared.cell.LeafCell.{LeafCell}
use Rattle.tree_page.specs.declared.cell.InnerCell.{InnerCell}
use Rattle.tree_page.specs.declared.cell.PageCells.{PageCells}
use Rattle.tree_page.specs.declared.cell.PageCells.TheVariants.{Leaf, Interior}
use Rattle.tree_page.specs.Page.{inner, rowid_of, AreRising}
use Rattle.tree_model.specs.declared.level.Level.{Level}
use Rattle.tree_model.specs.Walk.{all_children}
use Rattle.page_cut.specs.declared.parts.Sheet.{Sheet}
use Rattle.page_cut.specs.declared.parts.Sheets.{Sheets}
use Rattle.page_cut.specs.Cut.{IsWhole, IsCut}
use Rattle.tree_level.specs.Level.{up_cells}
use Rattle.tree_plan.specs.Law.{AreNumbered}
use Rattle.tree_plan.specs.Climb.{on}
use Rattle.tree_shrink.specs.Rest.{no_cell, cells_left}
use Rattle.tree_join.specs.declared.level.Left.{Left}
use Rattle.tree_join.specs.declared.level.Left.TheVariants.{Parts, Over, Nothing}
use Rattle.tree_join.specs.declared.pair.JoinPlan.{JoinPlan}

-- all cells stay on their page
abbrev pub IsAllLeft : PageCells → Left → Type 0
IsAllLeft cells Nothing = ⊥
IsAllLeft cells (Over child) = ⊥
IsAllLeft cells (Parts sheets) = (sheets.front.items ≡ []) × (sheets.last ≡ cells)

-- what is left of a leaf with these cells, on a page of this number
abbrev pub IsLeafLeft : ℕ → ℕ → List LeafCell → Left → Type 0
IsLeafLeft number usable cells Nothing = cells ≡ []
IsLeafLeft number usable cells (Over child) = ⊥
IsLeafLeft number usable cells (Parts sheets) = (1 ≤ length cells) × IsWhole number usable (Leaf cells) sheets

-- what is left of an interior page without the child that its way took
abbrev pub IsLeftOut : ℕ → Level → Left → Type 0
IsLeftOut usable level Nothing = cells_left level.at level.cells level.right ≡ None
IsLeftOut usable level (Over child) = cells_left level.at level.cells level.right ≡ Some ([], child)
IsLeftOut usable level (Parts sheets) =
    (cells : List InnerCell) × (right : ℕ) × (cells_left level.at level.cells level.right ≡ Some (cells, right)) × (1 ≤ length cells)
    × IsWhole level.number usable (Interior cells right) sheets

-- the child at a place: that of the cell there, or the right-most one behind the cells
abbrev pub child_of : Level → ℕ → ℕ
child_of level at = slice_index_or (all_children level.cells level.right) at 0

-- The page that the way took and the one beside it: the next one, or, of the right-most child, the one before. The cell at this
-- place is that of the left one of the two
abbrev pub pair_at : Level → ℕ
pair_at level = if nat_lt level.at (length level.cells) then level.at else length level.cells - 1

abbrev pub left_page : Level → ℕ
left_page level = child_of level (pair_at level)

abbrev pub right_page : Level → ℕ
right_page level = child_of level (suc (pair_at level))

-- the key between the two
abbrev pub key_between : Level → ℤ
key_between level = (slice_index_or level.cells (pair_at level) no_cell).rowid

-- the one of the two that is not on the way
abbrev pub sibling_of : Level → ℕ
sibling_of level = if nat_lt level.at (length level.cells) then right_page level else left_page level

-- the children of both, in order: the one that is left of the page on the way, and those of the page beside it
abbrev pub joined_cells : Level → ℕ → List InnerCell → ℕ → List InnerCell
joined_cells level child cells right =
    if nat_lt level.at (length level.cells) then record { child = child; rowid = key_between level } ∷ cells
    else cells ++ record { child = right; rowid = key_between level } ∷ []

abbrev pub joined_right : Level → ℕ → ℕ → ℕ
joined_right level child right = if nat_lt level.at (length level.cells) then right else child

-- the cells of the page above, with those that name the first of the parts in place of the left one of the two
abbrev pub with_pair : Level → List Sheet → List InnerCell
with_pair level front = take (pair_at level) level.cells ++ (up_cells front ++ drop (suc (pair_at level)) level.cells)

-- the left page is lost where the right one holds all
abbrev pub joined_lost : ℕ → List Sheet → List ℕ
joined_lost page [] = page ∷ []
joined_lost page (sheet ∷ more) = []

abbrev pub listed : Option ℕ → List ℕ
listed None = []
listed (Some page) = page ∷ []

-- one part at most stands before the last one, on the left page
abbrev pub IsOnLeft : ℕ → List Sheet → Type 0
IsOnLeft page [] = Unit {0}
IsOnLeft page (sheet ∷ []) = sheet.number ≡ page
IsOnLeft page (sheet ∷ other ∷ more) = ⊥

-- what is left of the page above: its cells, in parts that fit; or, where it stands over the right page alone, that page
abbrev pub IsAfter : ℕ → Level → List Sheet → Left → Type 0
IsAfter usable level front Nothing = ⊥
IsAfter usable level front (Over child) = (with_pair level front ≡ []) × (child ≡ level.right)
IsAfter usable level front (Parts sheets) = (1 ≤ length (with_pair level front)) × IsCut level.number usable (Interior (with_pair level front) level.right) sheets

-- the children of both pages are on the right page, or in two parts on both
pub record IsJoined (usable : ℕ) (level : Level) (child : ℕ) (cells : List InnerCell) (right : ℕ) (sheets : Sheets) (front : List Sheet) : Type 0 where
  pub cut : IsCut (right_page level) usable (Interior (joined_cells level child cells right) (joined_right level child right)) sheets
  pub numbered : AreNumbered sheets.front.items front
  pub on_left : IsOnLeft (left_page level) front

-- the plan of two pages that are joined: what is written, the page that is lost, and what is left of the page above
pub record IsJoin (usable : ℕ) (level : Level) (child : ℕ) (cells : List InnerCell) (right : ℕ) (plan : JoinPlan) : Type 0 where
  pub sheets : Sheets
  pub front : List Sheet
  pub joined : IsJoined usable level child cells right sheets front
  pub written : plan.sheets.items ≡ front ++ on (right_page level) sheets.last ∷ []
  pub lost : listed plan.lost ≡ joined_lost (left_page level) front
  pub after : IsAfter usable level front plan.left

-- the keys of some cells rise
abbrev pub KeysRise : List InnerCell → Type 0
KeysRise cells = AreRising (map rowid_of (map inner cells))

-- the keys of the page above would not rise with that of the first part
pub record HasNoPlace (usable : ℕ) (level : Level) (child : ℕ) (cells : List InnerCell) (right : ℕ) : Type 0 where
  pub sheets : Sheets
  pub front : List Sheet
  pub joined : IsJoined usable level child cells right sheets front
  pub not_rising : ¬ (KeysRise (with_pair level front))

-- in damaged pages two pages cannot be joined: their keys would not rise, or those of the page above
abbrev pub IsUnjoined : ℕ → Level → ℕ → List InnerCell → ℕ → Type 0
IsUnjoined usable level child cells right = ¬ (KeysRise (joined_cells level child cells right)) ⊎ HasNoPlace usable level child cells right

abbrev pub IsJoinResult : ℕ → Level → ℕ → List InnerCell → ℕ → Option JoinPlan → Type 0
IsJoinResult usable level child cells right None = IsUnjoined usable level child cells right
IsJoinResult usable level child cells right (Some plan) = IsJoin usable level child cells right plan
