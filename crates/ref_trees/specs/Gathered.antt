-- What the plain program says of the tree from a root.
-- After sqlite.org, "Database File Format", section 1.6, "B-tree Pages".
use Rattle.std.specs.Prelude.{◌≡◌, ℕ, suc, ◌≤◌, max, List}
use Rattle.page_list.specs.Pages.{Pages}
use Rattle.tree_model.specs.Tree.{Row, Tree, Leaf, Child, Right, root_of, rows_of}
use Rattle.tree_model.specs.Held.{Holds}
use Rattle.tree_model.specs.Whole.{most_depth}

-- how many pages there are from the root of a tree to its deepest leaf, both counted
abbrev pub height : Tree → ℕ
height (Leaf page rows) = 1
height (Child child key more) = max (suc (height child)) (height more)
height (Right page child) = suc (height child)

-- the pages hold this tree from a root, and it is at most so many levels high
pub record HasTree (pages : Pages) (levels root : ℕ) (tree : Tree) : Type 0 where
  pub held : Holds pages tree
  pub rooted : root_of tree ≡ root
  pub low : height tree ≤ levels

-- they hold no such tree
abbrev pub HasNoTree : Pages → ℕ → ℕ → Type 0
HasNoTree pages levels root = (tree : Tree) → ¬ (HasTree pages levels root tree)

-- these are the rows of the tree from a root, which is as high as a whole tree may be at most
pub record HasRows (pages : Pages) (root : ℕ) (rows : List Row) : Type 0 where
  pub tree : Tree
  pub has_tree : HasTree pages most_depth root tree
  pub rows_are : rows ≡ rows_of tree
