-- Words for the steps inside the crate.
use Rattle.std.specs.Prelude.{◌≡◌, ℕ, ℤ, ◌<ℤ◌, List, [], ◌∷◌, ◌++◌, Option, Some, None}
use Rattle.tree_page.specs.declared.cell.InnerCell.{InnerCell}
use Rattle.tree_page.specs.declared.cell.PageCells.TheVariants.{Interior}
use Rattle.tree_model.specs.declared.level.Level.{Level}
use Rattle.page_cut.specs.declared.parts.Sheet.{Sheet}
use Rattle.page_cut.specs.declared.parts.Sheets.{Sheets}
use Rattle.page_cut.specs.Cut.{IsCut}
use Rattle.tree_plan.specs.Law.{AreNumbered}
use Rattle.tree_plan.specs.Climb.{on}
use Rattle.tree_shrink.specs.Rest.{cells_left}
use Rattle.tree_join.specs.declared.pair.JoinPlan.{JoinPlan}
use Rattle.tree_join.specs.declared.level.Left.{Left}
use Rattle.tree_join.specs.declared.level.Inner.{Inner}
use Rattle.tree_join.specs.Join.{KeysRise, with_pair, listed, joined_lost, IsOnLeft, IsAfter}

-- a key is behind the last one, if there is one
abbrev pub IsBehind : Option ℤ → ℤ → Type 0
IsBehind None key = Unit {0}
IsBehind (Some last) key = last <ℤ key

-- the cells are cut where their keys rise
abbrev pub IsCutRising : ℕ → ℕ → List InnerCell → ℕ → Option Sheets → Type 0
IsCutRising number usable cells right None = ¬ (KeysRise cells)
IsCutRising number usable cells right (Some sheets) = IsCut number usable (Interior cells right) sheets

-- what is left of the page above, where its keys rise
abbrev pub IsLeftAbove : ℕ → Level → List Sheet → Option Left → Type 0
IsLeftAbove usable level front None = ¬ (KeysRise (with_pair level front))
IsLeftAbove usable level front (Some left) = IsAfter usable level front left

-- the cells of an interior page without the child at a place: one cell less, and what is left
pub record IsWithout (cells : List InnerCell) (right at : ℕ) (page : Inner) : Type 0 where
  pub front : List InnerCell
  pub cell : InnerCell
  pub back : List InnerCell
  pub were : cells ≡ front ++ cell ∷ back
  pub are : page.cells ≡ front ++ back
  pub left : cells_left at cells right ≡ Some (page.cells, page.right)

-- the parts are on their pages, the one before the last, if there is one, on the left one
pub record ArePutOn (left_page : ℕ) (sheets : Sheets) (front : List Sheet) : Type 0 where
  pub numbered : AreNumbered sheets.front.items front
  pub on_left : IsOnLeft left_page front

-- the plan of the page above two pages that are joined in these parts, where its keys rise
abbrev pub IsPlanAbove : ℕ → Level → ℕ → ℕ → Sheets → Option JoinPlan → Type 0
IsPlanAbove usable level left_page right_page sheets None = (front : List Sheet) × ArePutOn left_page sheets front × ¬ (KeysRise (with_pair level front))
IsPlanAbove usable level left_page right_page sheets (Some plan) =
    (front : List Sheet) × ArePutOn left_page sheets front × (plan.sheets.items ≡ front ++ on right_page sheets.last ∷ [])
    × (listed plan.lost ≡ joined_lost left_page front) × IsAfter usable level front plan.left
