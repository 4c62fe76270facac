-- The way of a search in a tree: the leaf that it ends in, and the trees beside it.
-- After sqlite.org, "Database File Format", section 1.6, "B-tree Pages".
use Rattle.std.specs.Prelude.{◌≡◌, ◌⊎◌, ℕ, suc, ◌≤◌, ℤ, ◌<ℤ◌, ◌≤ℤ◌, List, [], ◌∷◌, ◌++◌, length, map, reverse}
use Rattle.std.specs.List.{flat_map}
use Rattle.page_list.specs.Pages.{Pages}
use Rattle.tree_page.specs.declared.cell.LeafCell.{LeafCell}
use Rattle.tree_page.specs.declared.cell.PageCells.TheVariants.{Leaf as LeafPage, Interior as InteriorPage}
use Rattle.tree_model.specs.Tree.{Row, Tree, Leaf}
use Rattle.tree_model.specs.Held.{HasCells}
use Rattle.tree_model.specs.Whole.{below_all, greatest, most_depth, IsWholeTree}
use Rattle.tree_model.specs.declared.level.Level.{Level}
use Rattle.tree_run.specs.Node.{Piece, last_key, pages_in}
use Rattle.tree_run.specs.Run.{IsRun, one, over, Behind, within, bound, behind_pages}
use Rattle.tree_run.specs.Laws.{AreRows}
use Rattle.tree_level.specs.Level.{Has}
use Rattle.tree_search.specs.Search.{Descends}

-- an interior page on the way, and the trees beside the child that the search took
pub record Beside : Type 0 where
  pub before : List Piece
  pub behind : Behind
  pub level : Level

-- the interior page with a child in this place; the tree over a child, by the interior pages from below
abbrev pub with_child : Tree → Beside → Tree
with_child child step = over step.level.number (within step.before (one child) step.behind)

abbrev pub tree_over : Tree → List Beside → Tree
tree_over child [] = child
tree_over child (step ∷ steps) = tree_over (with_child child step) steps

-- the bounds of the child, by those of the tree, and the depth of the tree, by that of the child
abbrev pub low_at : ℤ → List Beside → ℤ
low_at low [] = low
low_at low (step ∷ steps) = last_key (low_at low steps) step.before

abbrev pub high_at : ℤ → List Beside → ℤ
high_at high [] = high
high_at high (step ∷ steps) = bound (high_at high steps) step.behind

abbrev pub depth_over : ℕ → List Beside → ℕ
depth_over depth [] = depth
depth_over depth (step ∷ steps) = depth_over (suc depth) steps

-- all pages of the tree but those of the child: of the interior pages, and of the trees beside
abbrev pub around : List Beside → List ℕ
around steps = flat_map (λ step. step.level.number ∷ (pages_in step.before ++ behind_pages step.behind)) steps

-- the cells of the page are those of its children, the search took this one, and the key lies within its bounds
pub record IsBeside (low high : ℤ) (key : ℤ) (child : Tree) (step : Beside) : Type 0 where
  pub has : Has step.level.cells step.level.right (within step.before (one child) step.behind)
  pub at : step.level.at ≡ length step.before
  pub above : last_key low step.before <ℤ key
  pub below : key ≤ℤ bound high step.behind

abbrev pub AreBeside : ℤ → ℤ → ℤ → Tree → List Beside → Type 0
AreBeside low high key child [] = Unit {0}
AreBeside low high key child (step ∷ steps) = IsBeside (low_at low steps) (high_at high steps) key child step × AreBeside low high key (with_child child step) steps

-- the way of the search for a key to a leaf of a tree, by its interior pages from the root down
pub record IsWay (key : ℤ) (tree : Tree) (levels : List Level) (leaf : ℕ) (cells : List LeafCell) : Type 0 where
  pub rows : List Row
  pub steps : List Beside
  pub is : tree ≡ tree_over (Leaf leaf rows) steps
  pub cells_are : cells ≡ map (λ row. row.cell) rows
  pub levels_are : reverse levels ≡ map (λ step. step.level) steps
  pub beside : AreBeside below_all greatest key (Leaf leaf rows) steps
  pub above : low_at below_all steps <ℤ key
  pub below : key ≤ℤ high_at greatest steps

-- what pages hold there: the children of the page as a run, and the page
pub record Stands (pages : Pages) (low high : ℤ) (depth : ℕ) (child : Tree) (step : Beside) : Type 0 where
  pub is : IsRun pages low high depth (within step.before (one child) step.behind)
  pub page : HasCells pages step.level.number (InteriorPage step.level.cells step.level.right)

-- every interior page but page 1 as the root has a cell
abbrev pub IsSome : Beside → List Beside → Type 0
IsSome step steps = (1 ≤ length step.level.cells) ⊎ ((steps ≡ []) × (step.level.number ≡ 1))

abbrev pub AreStanding : Pages → ℤ → ℤ → ℕ → Tree → List Beside → Type 0
AreStanding pages low high depth child [] = Unit {0}
AreStanding pages low high depth child (step ∷ steps) =
    Stands pages (low_at low steps) (high_at high steps) depth child step × IsSome step steps × AreStanding pages low high (suc depth) (with_child child step) steps

-- pages that hold the tree hold all that stands along the way
pub record HoldWay (pages : Pages) (rows : List Row) (leaf : ℕ) (steps : List Beside) : Type 0 where
  pub leaf_has : HasCells pages leaf (LeafPage (map (λ row. row.cell) rows))
  pub rows_are : AreRows pages (low_at below_all steps) (high_at greatest steps) rows
  pub standing : AreStanding pages below_all greatest 1 (Leaf leaf rows) steps
  pub shallow : depth_over 1 steps ≤ most_depth

-- in a whole tree a search has a way, and pages with this whole tree hold what stands along it
pub record PathSteps : Type 0 where
  pub way : (pages : Pages) (root : ℕ) (tree : Tree) (key : ℤ) (levels : List Level) (leaf : ℕ) (cells : List LeafCell) → IsWholeTree pages root tree →
      below_all <ℤ key → key ≤ℤ greatest → Descends pages key root levels leaf cells → IsWay key tree levels leaf cells
  pub held : (pages : Pages) (root : ℕ) (tree : Tree) (key : ℤ) (levels : List Level) (leaf : ℕ) (cells : List LeafCell) → IsWholeTree pages root tree →
      (way : IsWay key tree levels leaf cells) → HoldWay pages way.rows leaf way.steps
