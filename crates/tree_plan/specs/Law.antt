-- What the plan of one level means, once its sheets are on their pages.
use Rattle.std.specs.Prelude.{◌≡◌, ℕ, suc, ◌+◌, ◌≤◌, ℤ, ◌<ℤ◌, ◌≤ℤ◌, List, [], ◌∷◌, ◌++◌, length, map}
use Rattle.std.specs.List.{AllByRecursion}
use Rattle.page_list.specs.Pages.{Pages, times, Among}
use Rattle.tree_model.specs.Tree.{Row, Tree, Leaf, rowid, root_of}
use Rattle.tree_model.specs.Held.{HasCells, HasRow}
use Rattle.tree_model.specs.Laws.{Keeps, chains_of}
use Rattle.tree_run.specs.Node.{Piece, last_key, pages_in}
use Rattle.tree_run.specs.Run.{IsRun, one, over, Behind, within, bound, behind_pages}
use Rattle.tree_run.specs.Edit.{put_row, chain_at, without, Edit, Puts, key_of}
use Rattle.tree_run.specs.Laws.{AreRows}
use Rattle.page_cut.specs.declared.parts.Sheet.{Sheet}
use Rattle.page_cut.specs.declared.parts.Sheets.{Sheets}
use Rattle.tree_level.specs.Level.{numbers, up_cells, Has, Instead}
use Rattle.tree_plan.specs.declared.leaf.LeafPlan.{LeafPlan}
use Rattle.tree_model.specs.declared.level.Level.{Level}
use Rattle.tree_plan.specs.Plan.{put_cell, IsLeafPlan, IsInnerPlan}

-- a row put among rows: their cells, that they are rows of the leaf, and their chains
pub record RowPut : Type 0 where
  pub cells : (row : Row) (rows : List Row) → map (λ r. r.cell) (put_row row rows) ≡ put_cell row.cell (map (λ r. r.cell) rows)
  pub are : (old new : Pages) (low high : ℤ) (row : Row) (rows : List Row) → AreRows old low high rows → HasRow new row → low <ℤ rowid row → rowid row ≤ℤ high →
      Keeps old new (Among (chains_of (without (rowid row) rows))) → AreRows new low high (put_row row rows)
  pub chains : (n : ℕ) (row : Row) (rows : List Row) → times n (chains_of (put_row row rows)) + times n (chain_at (rowid row) rows) ≡ times n (chains_of rows) + times n row.chain

-- the same sheets, with the numbers of their pages
abbrev pub AreNumbered : List Sheet → List Sheet → Type 0
AreNumbered [] [] = Unit {0}
AreNumbered [] (s ∷ more) = ⊥
AreNumbered (s ∷ more) [] = ⊥
AreNumbered (s ∷ more) (t ∷ others) = (t.cells ≡ s.cells) × (t.key ≡ s.key) × AreNumbered more others

-- the sheets are on their pages: those before the last on the pages of their numbers, the last on this page
pub record AreOn (pages : Pages) (sheets : Sheets) (front : List Sheet) (page : ℕ) : Type 0 where
  pub numbered : AreNumbered sheets.front.items front
  pub each : AllByRecursion (λ sheet. HasCells pages sheet.number sheet.cells) front
  pub last : HasCells pages page sheets.last

-- a leaf on the path: its plan, on its pages, stands in place of it
abbrev pub LeafPlanned : Type 0
LeafPlanned = (old new : Pages) (low high : ℤ) (root page number usable : ℕ) (row : Row) (rows : List Row) (plan : LeafPlan) (front : List Sheet) →
    AreRows old low high rows → low <ℤ rowid row → rowid row ≤ℤ high → IsLeafPlan number usable (map (λ r. r.cell) rows) row.cell plan → HasRow new row →
    Keeps old new (Among (chains_of (without (rowid row) rows))) → AreOn new plan.sheets front page →
    Instead new low high 1 (Puts row) (Leaf root rows) (up_cells front) page (row.chain ++ numbers front) (chain_at (rowid row) rows)

-- an interior page on the path: its plan, on its pages, stands in place of it where what stands in place of the child does
abbrev pub InnerPlanned : Type 0
InnerPlanned = (old new : Pages) (low high : ℤ) (depth root page usable : ℕ) (edit : Edit) (before : List Piece) (child : Tree) (behind : Behind) (level : Level)
    (ups : List Sheet) (sheets : Sheets) (front : List Sheet) (fresh gone : List ℕ) →
    IsRun old low high depth (within before (one child) behind) → Has level.cells level.right (within before (one child) behind) → level.at ≡ length before →
    last_key low before <ℤ key_of edit → key_of edit ≤ℤ bound high behind →
    Instead new (last_key low before) (bound high behind) depth edit child (up_cells ups) (root_of child) fresh gone →
    IsInnerPlan usable level ups sheets → 1 ≤ length ups → Keeps old new (Among (pages_in before ++ behind_pages behind)) → AreOn new sheets front page →
    Instead new low high (suc depth) edit (over root (within before (one child) behind)) (up_cells front) page (fresh ++ numbers front) gone
