-- What follows where trees within an interior page become fewer.
use Rattle.std.specs.Prelude.{◌≡◌, ◌≢◌, ℕ, ◌+◌, ℤ, ◌≤ℤ◌, List, [], ◌++◌, length, Some, None, IfSome}
use Rattle.page_list.specs.Pages.{Pages, times, Among}
use Rattle.tree_page.specs.declared.cell.InnerCell.{InnerCell}
use Rattle.tree_model.specs.Tree.{Row, Tree, root_of}
use Rattle.tree_model.specs.Laws.{Keeps, Rises, row_at, chains_of}
use Rattle.tree_model.specs.declared.ends.PathEnd.TheVariants.{NoRow}
use Rattle.tree_run.specs.Node.{Piece, cells_of, rows_in, pages_in, last_key}
use Rattle.tree_run.specs.Run.{Run, IsRun, run_rows, run_pages, one, Behind, Next, within, bound, behind_rows, behind_pages}
use Rattle.tree_run.specs.Edit.{chain_at, without}
use Rattle.tree_run.specs.Laws.{AreRows}
use Rattle.tree_level.specs.Level.{Has}
use Rattle.tree_shrink.specs.Rest.{left_of, cells_left}

-- a run stands within wider bounds too
abbrev pub RunWidens : Type 0
RunWidens = (pages : Pages) (low high low' high' : ℤ) (depth : ℕ) (run : Run) → low' ≤ℤ low → high ≤ℤ high' → IsRun pages low high depth run → IsRun pages low' high' depth run

-- a run within a longer one is replaced by another
abbrev pub RunReplaced : Type 0
RunReplaced = (old new : Pages) (low high : ℤ) (depth : ℕ) (before : List Piece) (run run' : Run) (behind : Behind) → IsRun old low high depth (within before run behind) →
    Keeps old new (Among (pages_in before ++ behind_pages behind)) → IsRun new (last_key low before) (bound high behind) depth run' → IsRun new low high depth (within before run' behind)

-- a child is left out: what is left is a run, of the same rows and pages but those of the child; there is none where it was the only one
pub record ChildLeftOut : Type 0 where
  pub is : (pages : Pages) (low high : ℤ) (depth : ℕ) (before : List Piece) (child : Tree) (behind : Behind) → IsRun pages low high depth (within before (one child) behind) →
      IfSome (left_of before behind) (IsRun pages low high depth)
  pub rows : (before : List Piece) (behind : Behind) → IfSome (left_of before behind) (λ run. run_rows run ≡ rows_in before ++ behind_rows behind)
  pub named : (n : ℕ) (before : List Piece) (behind : Behind) → IfSome (left_of before behind) (λ run. times n (run_pages run) ≡ times n (pages_in before) + times n (behind_pages behind))
  pub alone : (before : List Piece) (behind : Behind) → left_of before behind ≡ None → (before ≡ []) × (behind_rows behind ≡ []) × (behind_pages behind ≡ [])
  -- and its cells are those of the page without one
  pub cells : (before : List Piece) (child : Tree) (behind : Behind) (cells : List InnerCell) (right at : ℕ) → Has cells right (within before (one child) behind) → at ≡ length before →
      (left_of before behind ≡ None → cells_left at cells right ≡ None)
      × IfSome (left_of before behind) (λ run. cells_left at cells right ≡ Some (cells_of run.front, root_of run.last))

-- two pages beside each other are one run of their children, with the key between them
pub record Joined : Type 0 where
  pub is : (pages : Pages) (low key high : ℤ) (depth : ℕ) (run run' : Run) → IsRun pages low key depth run → IsRun pages key high depth run' →
      IsRun pages low high depth (within run.front (one run.last) (Next key run'))
  pub rows : (key : ℤ) (run run' : Run) → run_rows (within run.front (one run.last) (Next key run')) ≡ run_rows run ++ run_rows run'
  pub named : (n : ℕ) (key : ℤ) (run run' : Run) → times n (run_pages (within run.front (one run.last) (Next key run'))) ≡ times n (run_pages run) + times n (run_pages run')

-- the rows without one: no row has its rowid, each other rowid has the row that it had, and the rows still rise
pub record RowTakenOut : Type 0 where
  pub here : (low key : ℤ) (rows : List Row) → Rises low rows → row_at key (without key rows) ≡ NoRow
  pub beside : (low key other : ℤ) (rows : List Row) → Rises low rows → other ≢ key → row_at other (without key rows) ≡ row_at other rows
  pub rises : (low key : ℤ) (rows : List Row) → Rises low rows → Rises low (without key rows)
  pub are : (pages : Pages) (low high key : ℤ) (rows : List Row) → AreRows pages low high rows → low ≤ℤ high → AreRows pages low high (without key rows)
  pub chains : (n : ℕ) (key : ℤ) (rows : List Row) → times n (chains_of (without key rows)) + times n (chain_at key rows) ≡ times n (chains_of rows)
