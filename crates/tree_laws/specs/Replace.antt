-- One tree of whole pages becomes another, and what whole trees can be at most.
use Rattle.std.specs.Prelude.{◌≡◌, ◌⊎◌, ℕ, ◌+◌, ◌≤◌, ℤ, ◌≤ℤ◌, List, [], ◌∷◌, ◌++◌, length}
use Rattle.page_list.specs.Pages.{Pages, times, Among, AllDifferent, AreSized}
use Rattle.page_list.specs.Freelist.{Trunk}
use Rattle.tree_page.specs.declared.cell.InnerCell.{InnerCell}
use Rattle.tree_page.specs.declared.cell.PageCells.{PageCells}
use Rattle.tree_page.specs.declared.cell.PageCells.TheVariants.{Interior as InteriorPage}
use Rattle.tree_model.specs.Tree.{Tree, Leaf, Child, Right, root_of, rows_of, pages_of, IsOrdered, HasDepth, IsFilled, IsFilledRoot}
use Rattle.tree_model.specs.Held.{HasCells, Holds}
use Rattle.tree_model.specs.Whole.{most_depth, IsWholeTree, IsWholeFor, named_pages}
use Rattle.tree_model.specs.Laws.{Keeps, KeepsHeader, chains_of}
use Rattle.tree_model.specs.Need.{need, use_of}

-- the pages that a tree names were those of the one before it or not named, and none of them is named twice
pub record NewPages (named old new : List ℕ) : Type 0 where
  pub different : AllDifferent new
  pub free : (page : ℕ) → Among new page → Among old page ⊎ ¬ (Among named page)

-- one tree of a list of roots is replaced by any other whole tree from its root
abbrev pub TreeReplaced : Type 0
TreeReplaced = (old new : Pages) (roots : List ℕ) (before behind : List Tree) (tree tree' : Tree) (trunks : List Trunk) →
    IsWholeFor old roots (before ++ tree ∷ behind) trunks → ((root : ℕ) → root_of tree ≡ root → IsWholeTree new root tree') →
    NewPages (named_pages roots (before ++ tree ∷ behind) trunks) (pages_of tree) (pages_of tree') →
    Keeps old new (λ page. Among (named_pages roots (before ++ tree' ∷ behind) trunks) page × ¬ (Among (pages_of tree') page)) →
    KeepsHeader old new → new.size ≡ old.size → IsWholeFor new roots (before ++ tree' ∷ behind) trunks

-- the same tree within wider bounds
abbrev pub Widens : Type 0
Widens = (low high low' high' : ℤ) (tree : Tree) → low' ≤ℤ low → high ≤ℤ high' → IsOrdered low high tree → IsOrdered low' high' tree

-- the tree with its top on another page
abbrev pub renumbered : ℕ → Tree → Tree
renumbered page (Leaf old rows) = Leaf page rows
renumbered page (Child child key more) = Child child key (renumbered page more)
renumbered page (Right old child) = Right page child

-- its pages but the one at the top
abbrev pub below_top : Tree → List ℕ
below_top (Leaf page rows) = chains_of rows
below_top (Child child key more) = pages_of child ++ below_top more
below_top (Right page child) = pages_of child

-- a page takes over what the top of a tree held
pub record TopMoved : Type 0 where
  pub held : (old new : Pages) (page : ℕ) (tree : Tree) → Holds old tree → ((cells : PageCells) → HasCells old (root_of tree) cells → HasCells new page cells) →
      Keeps old new (Among (below_top tree)) → Holds new (renumbered page tree)
  pub rooted : (page : ℕ) (tree : Tree) → root_of (renumbered page tree) ≡ page
  pub rows : (page : ℕ) (tree : Tree) → rows_of (renumbered page tree) ≡ rows_of tree
  pub ordered : (page : ℕ) (low high : ℤ) (tree : Tree) → IsOrdered low high tree → IsOrdered low high (renumbered page tree)
  pub depth : (page depth : ℕ) (tree : Tree) → HasDepth depth tree → HasDepth depth (renumbered page tree)
  pub filled : (page cells : ℕ) (tree : Tree) → IsFilled cells tree → IsFilled cells (renumbered page tree)
  pub as_root : (page : ℕ) (tree : Tree) → IsFilled 0 tree → IsFilledRoot (renumbered page tree)
  pub named : (n page : ℕ) (tree : Tree) → times n (pages_of (renumbered page tree)) + times n (root_of tree ∷ []) ≡ times n (pages_of tree) + times n (page ∷ [])

-- whole pages use no more than they may need: every interior page but page 1 has two children, every leaf but a root a row
abbrev pub UseWithinNeed : Type 0
UseWithinNeed = (page_size : ℕ) (pages : Pages) (roots : List ℕ) (trees : List Tree) (trunks : List Trunk) → AreSized page_size pages →
    IsWholeFor pages roots trees trunks → use_of roots trees ≤ need pages.usable roots trees

-- A tree of the greatest depth has few cells at its top: each child there has at least 2 to the 19 pages but one, and a
-- database of the greatest length has at most 2 to the 21. A cell and its pointer take 15 bytes at most, so there is room
-- for those of two more children on any page of 480 bytes: such a root is never cut, and a put never needs a deeper tree.
abbrev pub DeepTooLarge : Type 0
DeepTooLarge = (pages : Pages) (roots : List ℕ) (before behind : List Tree) (tree : Tree) (trunks : List Trunk) (cells : List InnerCell) (right : ℕ) →
    IsWholeFor pages roots (before ++ tree ∷ behind) trunks → HasDepth most_depth tree → HasCells pages (root_of tree) (InteriorPage cells right) → length cells ≤ 3
