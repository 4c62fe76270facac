-- What is gathered of a tree on the way over its pages. Only the steps of the plain program speak by these words.
use Rattle.std.specs.Prelude.{◌≡◌, ◌↔◌, ℕ, ℤ, IsTrue, List, [], ◌∷◌, map, Option, Some, None}
use Rattle.std.specs.List.{AllByRecursion}
use Rattle.page_list.specs.Pages.{Pages}
use Rattle.tree_page.specs.declared.cell.LeafCell.{LeafCell}
use Rattle.tree_page.specs.declared.cell.InnerCell.{InnerCell}
use Rattle.tree_model.specs.Tree.{Row, Tree, rows_of, pages_of, IsOrdered, HasDepth, IsFilled, IsFilledRoot}
use Rattle.tree_model.specs.Held.{HasRow}
use Rattle.tree_model.specs.Whole.{below_all}
use Rattle.ref_trees.specs.Gathered.{height, HasTree}
use Rattle.ref_trees.specs.declared.gather.Summary.{Summary}

-- a bound that may be missing, which then is below every rowid
abbrev pub low_of : Option ℤ → ℤ
low_of None = below_all
low_of (Some key) = key

-- what the keys behind these cells are to be above
abbrev pub last_key : Option ℤ → List InnerCell → Option ℤ
last_key low [] = low
last_key low (cell ∷ more) = last_key (Some cell.rowid) more

-- the summary tells of the tree, in front of which so many cells stand on its page
pub record Tells (cells : ℕ) (low high : ℤ) (tree : Tree) (s : Summary) : Type 0 where
  pub rows_are : s.rows.items ≡ rows_of tree
  pub pages_are : s.pages.items ≡ pages_of tree
  pub height_is : s.height ≡ height tree
  pub level_is : IsTrue s.level ↔ HasDepth (height tree) tree
  pub ordered_is : IsTrue s.ordered ↔ IsOrdered low high tree
  pub filled_is : IsTrue s.filled ↔ IsFilled cells tree
  pub root_is : cells ≡ 0 → IsTrue s.root ↔ IsFilledRoot tree

-- it tells of the tree from a page
pub record Gathers (pages : Pages) (levels page : ℕ) (low high : ℤ) (s : Summary) : Type 0 where
  pub tree : Tree
  pub has_tree : HasTree pages levels page tree
  pub tells : Tells 0 low high tree s

-- the rows of these cells
pub record AreRowsOf (pages : Pages) (cells : List LeafCell) (rows : List Row) : Type 0 where
  pub cells_are : map (λ row. row.cell) rows ≡ cells
  pub each : AllByRecursion (HasRow pages) rows
