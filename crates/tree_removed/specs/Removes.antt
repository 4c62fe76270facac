-- What a removal makes of a whole tree, once its sheets are on their pages.
use Rattle.std.specs.Prelude.{◌≡◌, ℕ, ◌+◌, ◌≤◌, ℤ, ◌<ℤ◌, ◌≤ℤ◌, List, [], ◌∷◌, ◌++◌, reverse, Option, Some, None}
use Rattle.std.specs.List.{AllByRecursion}
use Rattle.page_list.specs.Pages.{Pages, times, Among, AllDifferent}
use Rattle.page_list.specs.Freelist.{Trunk}
use Rattle.tree_page.specs.declared.cell.LeafCell.{LeafCell}
use Rattle.tree_model.specs.Tree.{Tree, root_of, rows_of, pages_of}
use Rattle.tree_model.specs.Held.{HasCells}
use Rattle.tree_model.specs.Whole.{below_all, greatest, IsWholeTree, IsWholeFor}
use Rattle.tree_model.specs.Laws.{Keeps}
use Rattle.tree_model.specs.declared.level.Level.{Level}
use Rattle.tree_run.specs.Edit.{chain_at, without}
use Rattle.page_cut.specs.declared.parts.Sheet.{Sheet}
use Rattle.tree_level.specs.Level.{numbers}
use Rattle.tree_plan.specs.Plan.{cell_of}
use Rattle.tree_put.specs.Way.{IsWay}
use Rattle.tree_put.specs.Puts.{AreFresh, HasPlace}
use Rattle.tree_shrink.specs.Root.{RootLeft}
use Rattle.tree_join.specs.declared.level.Left.{Left}
use Rattle.tree_join.specs.Join.{IsLeafLeft}
use Rattle.tree_join.specs.Leaf.{other_cells}
use Rattle.tree_remove.specs.Shrink.{AreShrunk}

-- the tree is one of whole pages, a search for the key has this way in it, its leaf has a cell of the key, and without that cell these pages are taken,
-- these sheets are to be written, these pages are lost, and the root has one child left, or stands
pub record IsShrinking (pages : Pages) (roots : List ℕ) (before : List Tree) (tree : Tree) (behind : List Tree) (trunks : List Trunk) (key : ℤ)
    (taken : List ℕ) (out : List Sheet) (lost : List ℕ) (over : Option ℕ) : Type 0 where
  pub least : 480 ≤ pages.usable
  pub most : pages.usable ≤ 65536
  pub whole : IsWholeFor pages roots (before ++ tree ∷ behind) trunks
  pub above : below_all <ℤ key
  pub below : key ≤ℤ greatest
  pub levels : List Level
  pub leaf : ℕ
  pub cells : List LeafCell
  pub way : IsWay key tree levels leaf cells
  pub cell : LeafCell
  pub has : cell_of key cells ≡ Some cell
  pub left : Left
  pub left_is : IsLeafLeft leaf pages.usable (other_cells key cells) left
  pub shrunk : AreShrunk pages leaf left (reverse levels) taken out lost over
  pub fresh : AreFresh (pages_of tree) taken

-- the tree that stands from the root then: whole, with the rows without the one of the key; the pages that are gone are none of its pages, and those
-- taken are
pub record HasRemoved (new : Pages) (key : ℤ) (was : Tree) (taken gone : List ℕ) : Type 0 where
  pub tree : Tree
  pub whole : IsWholeTree new (root_of was) tree
  pub rows : rows_of tree ≡ without key (rows_of was)
  pub named : (n : ℕ) → times n (pages_of tree) + times n gone ≡ times n (pages_of was) + times n taken

-- a page of the tree that is not written, not lost, and not of the chain of the row
pub record IsKept (key : ℤ) (tree : Tree) (out : List Sheet) (lost : List ℕ) (n : ℕ) : Type 0 where
  pub named : Among (pages_of tree) n
  pub unwritten : ¬ (Among (numbers out) n)
  pub unlost : ¬ (Among lost n)
  pub unremoved : ¬ (Among (chain_at key (rows_of tree)) n)

-- what is left of the tree where the root has one child left
abbrev pub IsOver : Pages → ℤ → Tree → List ℕ → List ℕ → Option ℕ → Type 0
IsOver new key was taken gone None = HasRemoved new key was taken gone
IsOver new key was taken gone (Some child) = (taken ≡ []) × ((tree : Tree) × (root_of tree ≡ child) × RootLeft new key was tree gone)

-- where the sheets are on their pages, and all else that the tree names stays, the row is removed; or all is done but for the root
abbrev pub ShrinkRemoves : Type 0
ShrinkRemoves = (old new : Pages) (roots : List ℕ) (before behind : List Tree) (tree : Tree) (trunks : List Trunk) (key : ℤ) (taken : List ℕ) (out : List Sheet) (lost : List ℕ)
    (over : Option ℕ) → IsShrinking old roots before tree behind trunks key taken out lost over → AllByRecursion (λ sheet. HasCells new sheet.number sheet.cells) out →
    Keeps old new (IsKept key tree out lost) → IsOver new key tree taken (chain_at key (rows_of tree) ++ lost) over

-- the sheets fit on their pages, and no two are for one page; the pages that are lost are different pages of the tree, none of them is its root or of
-- the chain of the row
pub record ShrinkFits : Type 0 where
  pub sheets : (old : Pages) (roots : List ℕ) (before behind : List Tree) (tree : Tree) (trunks : List Trunk) (key : ℤ) (taken : List ℕ) (out : List Sheet) (lost : List ℕ)
      (over : Option ℕ) → IsShrinking old roots before tree behind trunks key taken out lost over → AllDifferent (numbers out) × AllByRecursion (HasPlace old tree taken) out
  pub lost : (old : Pages) (roots : List ℕ) (before behind : List Tree) (tree : Tree) (trunks : List Trunk) (key : ℤ) (taken : List ℕ) (out : List Sheet) (lost : List ℕ)
      (over : Option ℕ) → IsShrinking old roots before tree behind trunks key taken out lost over →
      AllDifferent (chain_at key (rows_of tree) ++ lost) × ((n : ℕ) → Among (chain_at key (rows_of tree) ++ lost) n → Among (pages_of tree) n × (n ≡ root_of tree → ⊥))
