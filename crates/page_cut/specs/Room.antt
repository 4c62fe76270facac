-- What fits on a page: facts of sizes.
-- After sqlite.org, "Database File Format", section 1.6, "B-tree Pages".
use Rattle.std.specs.Prelude.{◌≡◌, ℕ, ◌+◌, ◌*◌, ◌≤◌, ◌<◌, List, [], ◌∷◌, length, take}
use Rattle.tree_page.specs.declared.cell.LeafCell.{LeafCell}
use Rattle.tree_page.specs.declared.cell.InnerCell.{InnerCell}
use Rattle.tree_page.specs.declared.cell.PageCells.{PageCells}
use Rattle.tree_page.specs.declared.cell.PageCells.TheVariants.{Leaf}
use Rattle.tree_page.specs.Page.{Cell, leaf, inner}
use Rattle.tree_page.specs.Written.{space_of, KeepsLocal, Fits}
use Rattle.page_cut.specs.declared.parts.Half.{Half}

-- the cells fit on every page but page 1, which has 100 bytes less
abbrev pub FitsOther : PageCells → ℕ → Type 0
FitsOther cells usable = (number : ℕ) → 2 ≤ number → Fits cells number usable

-- the smallest page has room for any one cell of a leaf, with three bytes to spare; an interior cell is small
pub record OneCell : Type 0 where
  pub of_leaf : (usable : ℕ) (cell : LeafCell) → 480 ≤ usable → usable ≤ 65536 → KeepsLocal usable cell → space_of (leaf cell ∷ []) + 11 ≤ usable
  pub fits : (usable : ℕ) (cell : LeafCell) → 480 ≤ usable → usable ≤ 65536 → KeepsLocal usable cell → FitsOther (Leaf (cell ∷ [])) usable
  -- on page 1 a cell does not fit only where it keeps nearly all that a page has
  pub first : (usable : ℕ) (cell : LeafCell) → 480 ≤ usable → usable ≤ 65536 → KeepsLocal usable cell → ¬ (Fits (Leaf (cell ∷ [])) 1 usable) → usable < length cell.local + 132
  pub of_inner : (cell : InnerCell) → (7 ≤ space_of (inner cell ∷ [])) × (space_of (inner cell ∷ []) ≤ 15)

-- the local part of a cell is no longer than a page may be
abbrev pub IsShort : Cell → Type 0
IsShort (leaf cell) = length cell.local ≤ 65536
IsShort (inner cell) = Unit {0}

-- The cell in which the middle lies of all that the cells take: those before it take at most half, and with it more
-- than half. So those behind it take less than half.
pub record IsMiddle (cells : List Cell) (middle : Half) : Type 0 where
  pub within : middle.at < length cells
  pub before_is : space_of (take middle.at cells) ≡ middle.before
  pub here_is : space_of (take (middle.at + 1) cells) ≡ middle.before + middle.here
  pub total_is : space_of cells ≡ middle.total
  pub half : 2 * middle.before ≤ middle.total
  pub over : middle.total < 2 * (middle.before + middle.here)
