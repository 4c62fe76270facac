-- The plans of a whole path, from the leaf up.
use Rattle.std.specs.Prelude.{◌≡◌, ◌⊎◌, ℕ, suc, ◌≤◌, ℤ, ◌<ℤ◌, ◌≤ℤ◌, List, [], ◌∷◌, ◌++◌, length}
use Rattle.page_list.specs.Pages.{Pages, Among}
use Rattle.tree_page.specs.declared.cell.PageCells.TheVariants.{Interior as InteriorPage}
use Rattle.tree_model.specs.Tree.{Tree, root_of}
use Rattle.tree_model.specs.Held.{HasCells}
use Rattle.tree_model.specs.Laws.{Keeps}
use Rattle.tree_run.specs.Node.{Piece, last_key, pages_in}
use Rattle.tree_run.specs.Run.{IsRun, one, over, Behind, within, bound, behind_pages}
use Rattle.tree_run.specs.Edit.{Edit, key_of}
use Rattle.page_cut.specs.declared.parts.Sheet.{Sheet}
use Rattle.page_cut.specs.declared.parts.Sheets.{Sheets}
use Rattle.tree_level.specs.Level.{numbers, up_cells, Has, Instead}
use Rattle.tree_model.specs.declared.level.Level.{Level}
use Rattle.tree_plan.specs.Plan.{IsInnerPlan}
use Rattle.tree_plan.specs.Law.{AreOn}

-- an interior page above the child that the path took: what stands beside that child; its cells; its plan; and the
-- parts before the last one, with the numbers of their pages
pub record Step : Type 0 where
  pub before : List Piece
  pub behind : Behind
  pub level : Level
  pub sheets : Sheets
  pub front : List Sheet

-- the tree above a child, by the steps from below
abbrev pub above : Tree → Step → Tree
above child step = over step.level.number (within step.before (one child) step.behind)

abbrev pub tree_above : Tree → List Step → Tree
tree_above child [] = child
tree_above child (step ∷ steps) = tree_above (above child step) steps

-- the bounds of the child, by those of the tree
abbrev pub low_below : ℤ → List Step → ℤ
low_below low [] = low
low_below low (step ∷ steps) = last_key (low_below low steps) step.before

abbrev pub high_below : ℤ → List Step → ℤ
high_below high [] = high
high_below high (step ∷ steps) = bound (high_below high steps) step.behind

abbrev pub depth_above : ℕ → List Step → ℕ
depth_above depth [] = depth
depth_above depth (step ∷ steps) = depth_above (suc depth) steps

-- what the old pages have beside the child
pub record StepIs (old : Pages) (low high : ℤ) (depth : ℕ) (edit : Edit) (child : Tree) (step : Step) : Type 0 where
  pub is : IsRun old low high depth (within step.before (one child) step.behind)
  pub has : Has step.level.cells step.level.right (within step.before (one child) step.behind)
  pub at : step.level.at ≡ length step.before
  pub above_low : last_key low step.before <ℤ key_of edit
  pub below_high : key_of edit ≤ℤ bound high step.behind

-- cells come up: the page is planned, and its parts are on their pages, the last on the page itself
pub record IsPlanned (old new : Pages) (usable : ℕ) (ups : List Sheet) (step : Step) : Type 0 where
  pub some : 1 ≤ length ups
  pub plan : IsInnerPlan usable step.level ups step.sheets
  pub beside : Keeps old new (Among (pages_in step.before ++ behind_pages step.behind))
  pub on : AreOn new step.sheets step.front step.level.number

-- none comes up: the page stays
pub record IsKept (old new : Pages) (ups : List Sheet) (step : Step) : Type 0 where
  pub none : ups ≡ []
  pub none_up : step.front ≡ []
  pub some : 1 ≤ length step.level.cells
  pub page_has : HasCells old step.level.number (InteriorPage step.level.cells step.level.right)
  pub beside : Keeps old new (Among (step.level.number ∷ (pages_in step.before ++ behind_pages step.behind)))

-- each page of the path, from below
abbrev pub AreSteps : Pages → Pages → ℕ → ℤ → ℤ → ℕ → Edit → Tree → List Sheet → List Step → Type 0
AreSteps old new usable low high depth edit child ups [] = Unit {0}
AreSteps old new usable low high depth edit child ups (step ∷ steps) =
    StepIs old (low_below low steps) (high_below high steps) depth edit child step × (IsPlanned old new usable ups step ⊎ IsKept old new ups step)
    × AreSteps old new usable low high (suc depth) edit (above child step) step.front steps

-- what comes up at the top, and the new pages on the way
abbrev pub ups_above : List Sheet → List Step → List Sheet
ups_above ups [] = ups
ups_above ups (step ∷ steps) = ups_above step.front steps

abbrev pub taken_above : List ℕ → List Step → List ℕ
taken_above fresh [] = fresh
taken_above fresh (step ∷ steps) = taken_above (fresh ++ numbers step.front) steps

-- what stands in place of the child makes what stands in place of the tree
abbrev pub PathPlanned : Type 0
PathPlanned = (old new : Pages) (usable : ℕ) (low high : ℤ) (depth : ℕ) (edit : Edit) (child : Tree) (ups : List Sheet) (steps : List Step) (fresh gone : List ℕ) →
    Instead new (low_below low steps) (high_below high steps) depth edit child (up_cells ups) (root_of child) fresh gone →
    AreSteps old new usable low high depth edit child ups steps →
    Instead new low high (depth_above depth steps) edit (tree_above child steps) (up_cells (ups_above ups steps)) (root_of (tree_above child steps)) (taken_above fresh steps) gone
