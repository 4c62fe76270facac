-- What the sheets of a put, once they are on their pages, make of a whole tree.
use Rattle.std.specs.Prelude.{◌≡◌, ℕ, ◌+◌, ◌≤◌, ◌<ℤ◌, ◌≤ℤ◌, List, ◌∷◌, ◌++◌, reverse}
use Rattle.std.specs.List.{AllByRecursion}
use Rattle.page_list.specs.Pages.{Pages, times, Among, AllDifferent}
use Rattle.page_list.specs.Freelist.{Trunk}
use Rattle.tree_page.specs.declared.cell.LeafCell.{LeafCell}
use Rattle.tree_page.specs.Written.{Fits}
use Rattle.tree_model.specs.Tree.{Row, Tree, rowid, root_of, rows_of, pages_of}
use Rattle.tree_model.specs.Held.{HasCells, HasRow}
use Rattle.tree_model.specs.Whole.{below_all, greatest, IsWholeTree, IsWholeFor}
use Rattle.tree_model.specs.Laws.{Keeps}
use Rattle.tree_model.specs.declared.level.Level.{Level}
use Rattle.tree_run.specs.Edit.{put_row, chain_at}
use Rattle.page_cut.specs.declared.parts.Sheet.{Sheet}
use Rattle.tree_level.specs.Level.{numbers}
use Rattle.tree_plan.specs.declared.leaf.LeafPlan.{LeafPlan}
use Rattle.tree_plan.specs.Plan.{IsLeafPlan}
use Rattle.tree_plan.specs.Climb.{AreClimbed}
use Rattle.tree_put.specs.Way.{IsWay}

-- these pages are different, none is page 1, and none is a page of the tree
pub record AreFresh (named taken : List ℕ) : Type 0 where
  pub different : AllDifferent taken
  pub each : (n : ℕ) → Among taken n → (2 ≤ n) × ¬ (Among named n)

-- the tree is one of whole pages, a search for the key has this way in it, the leaf with the new cell is planned, and for
-- its parts these pages are taken and these sheets are to be written
pub record IsClimb (pages : Pages) (roots : List ℕ) (before : List Tree) (tree : Tree) (behind : List Tree) (trunks : List Trunk) (cell : LeafCell)
    (plan : LeafPlan) (taken : List ℕ) (out : List Sheet) : Type 0 where
  pub least : 480 ≤ pages.usable
  pub whole : IsWholeFor pages roots (before ++ tree ∷ behind) trunks
  pub above : below_all <ℤ cell.rowid
  pub below : cell.rowid ≤ℤ greatest
  pub levels : List Level
  pub leaf : ℕ
  pub cells : List LeafCell
  pub way : IsWay cell.rowid tree levels leaf cells
  pub planned : IsLeafPlan leaf pages.usable cells cell plan
  pub climbed : AreClimbed pages.usable leaf plan.sheets (reverse levels) taken out
  pub fresh : AreFresh (pages_of tree) taken

-- the tree that stands from the root then: whole, with the row put among its rows; the chain of the row that it replaces is
-- none of its pages, and the chain of the new row and the pages taken are
pub record HasPut (new : Pages) (row : Row) (was : Tree) (taken : List ℕ) : Type 0 where
  pub tree : Tree
  pub whole : IsWholeTree new (root_of was) tree
  pub rows : rows_of tree ≡ put_row row (rows_of was)
  pub named : (n : ℕ) → times n (pages_of tree) + times n (chain_at (rowid row) (rows_of was)) ≡ times n (pages_of was) + times n (row.chain ++ taken)

-- a page of the tree that is not written, and not of the chain of the row that is replaced
pub record IsKept (row : Row) (tree : Tree) (out : List Sheet) (n : ℕ) : Type 0 where
  pub named : Among (pages_of tree) n
  pub unwritten : ¬ (Among (numbers out) n)
  pub unreplaced : ¬ (Among (chain_at (rowid row) (rows_of tree)) n)

-- where the sheets are on their pages, the row is there, and all else that the tree names stays, the row is put
abbrev pub ClimbPuts : Type 0
ClimbPuts = (old new : Pages) (roots : List ℕ) (before behind : List Tree) (tree : Tree) (trunks : List Trunk) (row : Row) (plan : LeafPlan) (taken : List ℕ) (out : List Sheet) →
    IsClimb old roots before tree behind trunks row.cell plan taken out → HasRow new row → AllByRecursion (λ sheet. HasCells new sheet.number sheet.cells) out →
    Keeps old new (IsKept row tree out) → HasPut new row tree taken

-- each sheet fits on its page, which is one taken or one of the tree
pub record HasPlace (old : Pages) (tree : Tree) (taken : List ℕ) (sheet : Sheet) : Type 0 where
  pub fits : Fits sheet.cells sheet.number old.usable
  pub among : Among (pages_of tree ++ taken) sheet.number

-- the sheets fit on their pages, and no two are for one page
abbrev pub ClimbFits : Type 0
ClimbFits = (old : Pages) (roots : List ℕ) (before behind : List Tree) (tree : Tree) (trunks : List Trunk) (cell : LeafCell) (plan : LeafPlan) (taken : List ℕ)
    (out : List Sheet) → IsClimb old roots before tree behind trunks cell plan taken out → AllDifferent (numbers out) × AllByRecursion (HasPlace old tree taken) out
