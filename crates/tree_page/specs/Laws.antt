-- What follows from the definitions of b-tree pages alone.
use Rattle.std.specs.Prelude.{◌≡◌, ℕ, ◌≤◌, List, ◌∷◌, ◌++◌, length, take, drop}
use Rattle.tree_page.specs.declared.cell.LeafCell.{LeafCell}
use Rattle.tree_page.specs.declared.cell.InnerCell.{InnerCell}
use Rattle.tree_page.specs.declared.cell.PageCells.{PageCells}
use Rattle.tree_page.specs.declared.cell.PageCells.TheVariants.{Leaf, Interior}
use Rattle.tree_page.specs.Page.{IsPage}
use Rattle.tree_page.specs.Written.{Fits}

-- what stands in the first 100 bytes of page 1 is no part of its b-tree page
abbrev pub FrontApart : Type 0
FrontApart = (old new : List ℕ) (usable : ℕ) (cells : PageCells) → length (take usable new) ≡ length (take usable old) →
    drop 100 (take usable new) ≡ drop 100 (take usable old) → IsPage old 1 usable cells → IsPage new 1 usable cells

-- a page as it is read fits as it is written: its cells stand apart, and each is written in no more bytes than it has
abbrev pub PageFits : Type 0
PageFits = (page : List ℕ) (number usable : ℕ) (cells : PageCells) → usable ≤ length page → IsPage page number usable cells → Fits cells number usable

-- cells that fit still do with one of them left out, on an interior page with any right-most child
pub record FitsWithout : Type 0 where
  pub of_leaf : (front back : List LeafCell) (cell : LeafCell) (number usable : ℕ) → Fits (Leaf (front ++ cell ∷ back)) number usable → Fits (Leaf (front ++ back)) number usable
  pub of_interior : (front back : List InnerCell) (cell : InnerCell) (right other number usable : ℕ) → Fits (Interior (front ++ cell ∷ back) right) number usable
      → Fits (Interior (front ++ back) other) number usable
