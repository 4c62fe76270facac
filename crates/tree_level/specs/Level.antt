-- What comes of a page when a row is put or taken out below it, level by level.
use Rattle.std.specs.Prelude.{◌≡◌, ◌⊎◌, ℕ, suc, ◌+◌, ◌≤◌, ℤ, ◌<ℤ◌, ◌≤ℤ◌, List, [], ◌∷◌, ◌++◌, length, map, take, drop}
use Rattle.std.specs.List.{AllByRecursion}
use Rattle.page_list.specs.Pages.{Pages, times, Among}
use Rattle.tree_page.specs.declared.cell.InnerCell.{InnerCell}
use Rattle.tree_page.specs.declared.cell.PageCells.{PageCells}
use Rattle.tree_page.specs.declared.cell.PageCells.TheVariants.{Interior as InteriorPage}
use Rattle.tree_page.specs.Page.{cells_of as page_cells}
use Rattle.tree_model.specs.Tree.{Row, Tree, Leaf, root_of, rows_of, pages_of}
use Rattle.tree_model.specs.Held.{HasCells}
use Rattle.tree_model.specs.Whole.{below_all, greatest, most_depth, IsWholeTree}
use Rattle.tree_model.specs.Laws.{Keeps, chains_of}
use Rattle.tree_run.specs.Node.{Piece, cells_of, pages_in, last_key}
use Rattle.tree_run.specs.Run.{Run, IsRun, run_rows, run_pages, one, over, Behind, within, bound, behind_pages}
use Rattle.tree_run.specs.Edit.{Edit, key_of, edited}
use Rattle.tree_run.specs.Laws.{AreRows}
use Rattle.page_cut.specs.declared.parts.Sheet.{Sheet}
use Rattle.page_cut.specs.Cut.{AreLeafParts, AreInnerParts}

-- the pages of the parts before the last one, and the cells that name them
abbrev pub numbers : List Sheet → List ℕ
numbers front = map (λ sheet. sheet.number) front

abbrev pub up_cells : List Sheet → List InnerCell
up_cells front = map (λ sheet. record { child = sheet.number; rowid = sheet.key }) front

-- each part has a cell, and its page has its cells; the last part stands on a page of this number
pub record AreOnPages (pages : Pages) (front : List Sheet) (page : ℕ) (last : PageCells) : Type 0 where
  pub some : AllByRecursion (λ sheet. 1 ≤ length (page_cells sheet.cells)) front
  pub some_last : 1 ≤ length (page_cells last)
  pub each : AllByRecursion (λ sheet. HasCells pages sheet.number sheet.cells) front
  pub last_has : HasCells pages page last

-- What stands in place of a tree within bounds after a row was put or taken out below it: a run, of which the parent has to
-- name all but the last by these cells. The last stands on this page. Of the pages, those that are gone are no more, and the
-- fresh ones have come.
pub record Instead (new : Pages) (low high : ℤ) (depth : ℕ) (edit : Edit) (was : Tree) (ups : List InnerCell) (page : ℕ) (fresh gone : List ℕ) : Type 0 where
  pub run : Run
  pub is : IsRun new low high depth run
  pub named_by : cells_of run.front ≡ ups
  pub top : root_of run.last ≡ page
  pub rows : run_rows run ≡ edited edit (rows_of was)
  pub named : (n : ℕ) → times n (run_pages run) + times n gone + times n (root_of was ∷ []) ≡ times n (pages_of was) + times n fresh + times n (page ∷ [])

-- a leaf: its rows after the edit, in parts
abbrev pub LeafStep : Type 0
LeafStep = (new : Pages) (low high : ℤ) (root page : ℕ) (edit : Edit) (was rows : List Row) (front : List Sheet) (last : PageCells) (fresh gone : List ℕ) →
    AreRows new low high rows → rows ≡ edited edit was → ((n : ℕ) → times n (chains_of rows) + times n gone ≡ times n (chains_of was) + times n fresh) →
    AreLeafParts front last (map (λ row. row.cell) rows) → AreOnPages new front page last →
    Instead new low high 1 edit (Leaf root was) (up_cells front) page (fresh ++ numbers front) gone

-- the children of an interior page as its cells have them; and these cells with others in front of the child at a place
pub record Has (cells : List InnerCell) (right : ℕ) (run : Run) : Type 0 where
  pub cells_are : cells_of run.front ≡ cells
  pub right_is : root_of run.last ≡ right

abbrev pub with_ups : ℕ → List InnerCell → List InnerCell → List InnerCell
with_ups at ups cells = take at cells ++ (ups ++ drop at cells)

-- an interior page: its cells, with those that come from below in front of the child that the path took, in parts
abbrev pub InnerStep : Type 0
InnerStep = (old new : Pages) (low high : ℤ) (depth root page at right : ℕ) (edit : Edit) (before : List Piece) (child : Tree) (behind : Behind) (cells ups : List InnerCell)
    (front : List Sheet) (last : PageCells) (fresh gone : List ℕ) →
    IsRun old low high depth (within before (one child) behind) → Has cells right (within before (one child) behind) → at ≡ length before →
    last_key low before <ℤ key_of edit → key_of edit ≤ℤ bound high behind →
    Instead new (last_key low before) (bound high behind) depth edit child ups (root_of child) fresh gone →
    Keeps old new (Among (pages_in before ++ behind_pages behind)) →
    AreInnerParts front last (with_ups at ups cells) right → AreOnPages new front page last →
    Instead new low high (suc depth) edit (over root (within before (one child) behind)) (up_cells front) page (fresh ++ numbers front) gone

-- an interior page whose child is still one tree on its page: the page stays as it is, and is not written
abbrev pub InnerKept : Type 0
InnerKept = (old new : Pages) (low high : ℤ) (depth root right : ℕ) (edit : Edit) (before : List Piece) (child : Tree) (behind : Behind) (cells : List InnerCell) (fresh gone : List ℕ) →
    IsRun old low high depth (within before (one child) behind) → Has cells right (within before (one child) behind) → 1 ≤ length cells → HasCells old root (InteriorPage cells right) →
    last_key low before <ℤ key_of edit → key_of edit ≤ℤ bound high behind →
    Instead new (last_key low before) (bound high behind) depth edit child [] (root_of child) fresh gone →
    Keeps old new (Among (root ∷ (pages_in before ++ behind_pages behind))) →
    Instead new low high (suc depth) edit (over root (within before (one child) behind)) [] root (fresh ++ []) gone

-- a root that keeps its number: what stood on it stands in two or three parts below it; or, only on page 1, in one
pub record RootGrows : Type 0 where
  pub whole : (new : Pages) (depth root page : ℕ) (edit : Edit) (was : Tree) (ups : List InnerCell) (fresh gone : List ℕ) →
      (instead : Instead new below_all greatest depth edit was ups page fresh gone) → HasCells new root (InteriorPage ups page) → (1 ≤ length ups) ⊎ (root ≡ 1) → suc depth ≤ most_depth →
      IsWholeTree new root (over root instead.run) × (rows_of (over root instead.run) ≡ edited edit (rows_of was))
  pub named : (new : Pages) (depth root page n : ℕ) (edit : Edit) (was : Tree) (ups : List InnerCell) (fresh gone : List ℕ) →
      (instead : Instead new below_all greatest depth edit was ups page fresh gone) → root ≡ root_of was →
      times n (pages_of (over root instead.run)) + times n gone ≡ times n (pages_of was) + times n (fresh ++ page ∷ [])

-- a root whose cells still fit
abbrev pub RootStays : Type 0
RootStays = (new : Pages) (depth root : ℕ) (edit : Edit) (was : Tree) (fresh gone : List ℕ) → (instead : Instead new below_all greatest depth edit was [] root fresh gone) → depth ≤ most_depth →
    IsWholeTree new root instead.run.last × (rows_of instead.run.last ≡ edited edit (rows_of was))
