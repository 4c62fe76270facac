-- What follows for runs of trees.
use Rattle.std.specs.Prelude.{◌≡◌, ◌⊎◌, ◌↔◌, ℕ, suc, ◌+◌, ◌≤◌, ℤ, ◌<ℤ◌, ◌≤ℤ◌, List, [], ◌∷◌, ◌++◌, length, map}
use Rattle.std.specs.List.{AllByRecursion}
use Rattle.page_list.specs.Pages.{Pages, times, Among}
use Rattle.tree_page.specs.declared.cell.PageCells.TheVariants.{Leaf as LeafPage, Interior as InteriorPage}
use Rattle.tree_model.specs.Tree.{Row, Tree, Leaf, rowid, root_of, rows_of, pages_of, HasDepth}
use Rattle.tree_model.specs.Held.{HasCells, HasRow}
use Rattle.tree_model.specs.Whole.{below_all, greatest, most_depth, IsWholeTree}
use Rattle.tree_model.specs.Laws.{Keeps, Rises}
use Rattle.tree_run.specs.Node.{Piece, cells_of, rows_in, pages_in, last_key}
use Rattle.tree_run.specs.Run.{IsChild, AreChildren, Run, IsRun, run_rows, run_pages, over, Behind, within, bound, IsBehind, behind_rows, behind_pages}

-- a child has a row, so the bounds of a run are apart
abbrev pub Strict : Type 0
Strict = (pages : Pages) (low high : ℤ) (depth : ℕ) (run : Run) → IsRun pages low high depth run → low <ℤ high

-- a run within a longer one: what is asked of both, their rows, and how often they name a page
pub record RunWithin : Type 0 where
  pub parts : (pages : Pages) (low high : ℤ) (depth : ℕ) (before : List Piece) (run : Run) (behind : Behind) → IsRun pages low high depth (within before run behind)
      ↔ (AreChildren pages low depth before × IsRun pages (last_key low before) (bound high behind) depth run × IsBehind pages high depth behind)
  pub rows : (before : List Piece) (run : Run) (behind : Behind) → run_rows (within before run behind) ≡ rows_in before ++ (run_rows run ++ behind_rows behind)
  pub named : (n : ℕ) (before : List Piece) (run : Run) (behind : Behind) →
      times n (run_pages (within before run behind)) ≡ times n (pages_in before) + times n (run_pages run) + times n (behind_pages behind)

-- a run stays where its pages do
abbrev pub RunStays : Type 0
RunStays = (old new : Pages) (low high : ℤ) (depth : ℕ) (run : Run) → Keeps old new (Among (run_pages run)) → IsRun old low high depth run → IsRun new low high depth run

-- the page has the cells of the interior page over a run
abbrev pub HasRun : Pages → ℕ → Run → Type 0
HasRun pages page run = HasCells pages page (InteriorPage (cells_of run.front) (root_of run.last))

-- an interior page is one over a run of two trees at least, and has what its children have
pub record RunOver : Type 0 where
  pub up : (pages : Pages) (low high : ℤ) (depth page : ℕ) (run : Run) → IsRun pages low high depth run → HasRun pages page run → 1 ≤ length run.front →
      IsChild pages low high (suc depth) (over page run)
  pub down : (pages : Pages) (low high : ℤ) (depth page : ℕ) (run : Run) → IsChild pages low high (suc depth) (over page run) →
      IsRun pages low high depth run × HasRun pages page run × (1 ≤ length run.front)
  pub is_over : (depth : ℕ) (tree : Tree) → HasDepth (suc (suc depth)) tree → (page : ℕ) × (run : Run) × (tree ≡ over page run)
  pub rooted : (page : ℕ) (run : Run) → root_of (over page run) ≡ page
  pub rows : (page : ℕ) (run : Run) → rows_of (over page run) ≡ run_rows run
  pub named : (n page : ℕ) (run : Run) → times n (pages_of (over page run)) ≡ times n (run_pages run) + times n (page ∷ [])

-- the last rowid, or a bound where there is none
abbrev pub last_rowid : ℤ → List Row → ℤ
last_rowid low [] = low
last_rowid low (row ∷ more) = last_rowid (rowid row) more

-- the rows rise within bounds, and each has its payload
pub record AreRows (pages : Pages) (low high : ℤ) (rows : List Row) : Type 0 where
  pub each : AllByRecursion (HasRow pages) rows
  pub rises : Rises low rows
  pub most : last_rowid low rows ≤ℤ high

-- a leaf has its rows; and rows may be cut anywhere
pub record LeafOver : Type 0 where
  pub up : (pages : Pages) (low high : ℤ) (page : ℕ) (rows : List Row) → AreRows pages low high rows → HasCells pages page (LeafPage (map (λ row. row.cell) rows)) →
      1 ≤ length rows → IsChild pages low high 1 (Leaf page rows)
  pub down : (pages : Pages) (low high : ℤ) (page : ℕ) (rows : List Row) → low ≤ℤ high → IsChild pages low high 1 (Leaf page rows) → AreRows pages low high rows
  pub cut : (pages : Pages) (low high : ℤ) (rows more : List Row) → AreRows pages low high (rows ++ more) →
      AreRows pages low (last_rowid low rows) rows × AreRows pages (last_rowid low rows) high more

-- a run is a whole tree where its root stands over it: that is how a root grows. Only page 1 may stand over a run of
-- one tree
abbrev pub RootOver : Type 0
RootOver = (pages : Pages) (depth root : ℕ) (run : Run) → IsRun pages below_all greatest depth run → HasRun pages root run → (1 ≤ length run.front) ⊎ (root ≡ 1) →
    suc depth ≤ most_depth → IsWholeTree pages root (over root run)

-- and what stands below the root of a whole tree that is no leaf
pub record StandsOver (pages : Pages) (root : ℕ) (run : Run) : Type 0 where
  pub depth : ℕ
  pub is : IsRun pages below_all greatest depth run
  pub has : HasRun pages root run
  pub some : (1 ≤ length run.front) ⊎ (root ≡ 1)
  pub shallow : suc depth ≤ most_depth

abbrev pub RootUnder : Type 0
RootUnder = (pages : Pages) (root : ℕ) (run : Run) → IsWholeTree pages root (over root run) → StandsOver pages root run
