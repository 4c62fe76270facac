-- What comes of a root when a row is taken out below it. The root keeps its number.
-- After sqlite.org, "Database File Format", section 1.6, "B-tree Pages".
use Rattle.std.specs.Prelude.{◌≡◌, ℕ, suc, ◌+◌, ◌≤◌, ◌<◌, ℤ, List, [], ◌∷◌, ◌++◌, map}
use Rattle.page_list.specs.Pages.{Pages, times, Among}
use Rattle.tree_page.specs.declared.cell.InnerCell.{InnerCell}
use Rattle.tree_page.specs.declared.cell.PageCells.{PageCells}
use Rattle.tree_page.specs.declared.cell.PageCells.TheVariants.{Leaf as LeafPage, Interior as InteriorPage}
use Rattle.tree_model.specs.Tree.{Row, Tree, Leaf, Child, Right, root_of, rows_of, pages_of}
use Rattle.tree_model.specs.Held.{HasCells}
use Rattle.tree_model.specs.Whole.{below_all, greatest, most_depth, IsWholeTree}
use Rattle.tree_model.specs.Laws.{Keeps, chains_of}
use Rattle.tree_run.specs.Run.{IsChild, one, over}
use Rattle.tree_run.specs.Edit.{chain_at, without}
use Rattle.tree_run.specs.Laws.{AreRows}
use Rattle.tree_shrink.specs.Rest.{Below, Gone}
use Rattle.tree_shrink.specs.Level.{Less}

-- a root that has one child left, and cannot stay over it as it is
pub record RootLeft (new : Pages) (key : ℤ) (was child : Tree) (gone : List ℕ) : Type 0 where
  pub depth : ℕ
  pub is : IsChild new below_all greatest depth child
  pub shallow : suc depth ≤ most_depth
  pub rows : rows_of child ≡ without key (rows_of was)
  pub named : (n : ℕ) → times n (pages_of child) + times n gone + times n (root_of was ∷ []) ≡ times n (pages_of was)

abbrev pub LessRootLeft : Type 0
LessRootLeft = (new : Pages) (depth : ℕ) (key : ℤ) (was child : Tree) (gone : List ℕ) →
    Less new below_all greatest (suc depth) key was (Below child) (gone ++ root_of was ∷ []) → suc depth ≤ most_depth → RootLeft new key was child gone

-- so it is of a root without a cell, which only page 1 may be, where the page below it has one child left: that page is gone too
abbrev pub NoSibling : Type 0
NoSibling = (new : Pages) (depth root : ℕ) (key : ℤ) (was child : Tree) (gone : List ℕ) →
    Less new below_all greatest (suc depth) key was (Below child) (gone ++ root_of was ∷ []) → suc depth ≤ most_depth →
    RootLeft new key (over root (one was)) child (gone ++ root_of was ∷ [])

-- What stands from a root after a row was taken out: a whole tree with the rows without that one; those of the pages that are gone are no
-- more
pub record RootLess (new : Pages) (root : ℕ) (key : ℤ) (was tree : Tree) (gone : List ℕ) : Type 0 where
  pub whole : IsWholeTree new root tree
  pub rows : rows_of tree ≡ without key (rows_of was)
  pub named : (n : ℕ) → times n (pages_of tree) + times n gone ≡ times n (pages_of was)

-- what a tree has on its own page; of an interior page, `front` are the cells of the children before
abbrev pub content_behind : List InnerCell → Tree → PageCells
content_behind front (Leaf page rows) = LeafPage (map (λ row. row.cell) rows)
content_behind front (Child child key more) = content_behind (front ++ record { child = root_of child; rowid = key } ∷ []) more
content_behind front (Right page child) = InteriorPage front (root_of child)

abbrev pub content_of : Tree → PageCells
content_of tree = content_behind [] tree

-- the same tree with another page in place of its own
abbrev pub moved : ℕ → Tree → Tree
moved page (Leaf own rows) = Leaf page rows
moved page (Child child key more) = Child child key (moved page more)
moved page (Right own child) = Right page child

-- the root takes what the child has on its page, which is gone
abbrev pub RootTakes : Type 0
RootTakes = (old new : Pages) (key : ℤ) (was child : Tree) (gone : List ℕ) → RootLeft old key was child gone → HasCells new (root_of was) (content_of child) →
    Keeps old new (λ n. times n (root_of child ∷ []) < times n (pages_of child)) → RootLess new (root_of was) key was (moved (root_of was) child) (gone ++ root_of child ∷ [])

-- page 1, which may have too little room for that, stands over the child without a cell
abbrev pub RootOverOne : Type 0
RootOverOne = (old new : Pages) (key : ℤ) (was child : Tree) (gone : List ℕ) → RootLeft old key was child gone → root_of was ≡ 1 →
    HasCells new 1 (InteriorPage [] (root_of child)) → Keeps old new (Among (pages_of child)) → RootLess new 1 key was (over 1 (one child)) gone

-- where nothing is left below it, the root is a leaf without a row
abbrev pub RootEmpty : Type 0
RootEmpty = (old new : Pages) (depth : ℕ) (key : ℤ) (was : Tree) (gone : List ℕ) → Less old below_all greatest depth key was Gone (gone ++ root_of was ∷ []) →
    HasCells new (root_of was) (LeafPage []) → RootLess new (root_of was) key was (Leaf (root_of was) []) gone

-- a root that is a leaf has its other rows, or none
abbrev pub RootLeafLess : Type 0
RootLeafLess = (old new : Pages) (root : ℕ) (key : ℤ) (rows : List Row) → AreRows old below_all greatest rows →
    HasCells new root (LeafPage (map (λ row. row.cell) (without key rows))) → Keeps old new (Among (chains_of (without key rows))) →
    RootLess new root key (Leaf root rows) (Leaf root (without key rows)) (chain_at key rows)
