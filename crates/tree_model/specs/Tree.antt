-- A tree of rows, and what it has: rows, pages, order, depth. Here a tree is data; that pages hold it is said in
-- `Held`. Pages that loop hold no tree, since every tree ends.
-- After sqlite.org, "Database File Format", section 1.6, "B-tree Pages".
use Rattle.std.specs.Prelude.{◌≡◌, ℕ, zero, suc, ◌+◌, ◌≤◌, nat_eq, if◌then◌else◌, ℤ, ◌<ℤ◌, ◌≤ℤ◌, List, ◌∷◌, ◌++◌, length, ⊤}
use Rattle.std.specs.List.{flat_map, AllByRecursion}
use Rattle.tree_page.specs.declared.cell.LeafCell.{LeafCell}

-- a row: its cell, the pages of its overflow chain, and its whole payload
pub record Row : Type 0 where
  pub cell : LeafCell
  pub chain : List ℕ
  pub payload : List ℕ

abbrev pub rowid : Row → ℤ
rowid row = row.cell.rowid

-- A tree. A leaf is its page and its rows. An interior page is written as its children from the left, each with the
-- key behind it, up to the right-most one, with which the page itself stands: the page 5 with the children a and b
-- and the key 7 between them is `Child a 7 (Right 5 b)`.
pub data Tree : Type 0 where
  Leaf : ℕ → List Row → Tree
  Child : Tree → ℤ → Tree → Tree
  Right : ℕ → Tree → Tree

-- the page at the top
abbrev pub root_of : Tree → ℕ
root_of (Leaf page rows) = page
root_of (Child child key more) = root_of more
root_of (Right page child) = page

-- the rows, in tree order
abbrev pub rows_of : Tree → List Row
rows_of (Leaf page rows) = rows
rows_of (Child child key more) = rows_of child ++ rows_of more
rows_of (Right page child) = rows_of child

-- the pages: those of the tree, and those of the chains of its rows
abbrev pub pages_of : Tree → List ℕ
pages_of (Leaf page rows) = page ∷ flat_map (λ row. row.chain) rows
pages_of (Child child key more) = pages_of child ++ pages_of more
pages_of (Right page child) = page ∷ pages_of child

-- every key and rowid is above a bound and at most another; a key is such a bound for the children beside it
abbrev pub Within : ℤ → ℤ → ℤ → Type 0
Within low high key = (low <ℤ key) × (key ≤ℤ high)

abbrev pub IsOrdered : ℤ → ℤ → Tree → Type 0
IsOrdered low high (Leaf page rows) = AllByRecursion (λ row. Within low high (rowid row)) rows
IsOrdered low high (Child child key more) = Within low high key × IsOrdered low key child × IsOrdered key high more
IsOrdered low high (Right page child) = IsOrdered low high child

-- all leaves have this depth, where the root has depth 1
abbrev pub HasDepth : ℕ → Tree → Type 0
HasDepth depth (Leaf page rows) = depth ≡ 1
HasDepth zero (Child child key more) = ⊥
HasDepth (suc depth) (Child child key more) = HasDepth depth child × HasDepth (suc depth) more
HasDepth zero (Right page child) = ⊥
HasDepth (suc depth) (Right page child) = HasDepth depth child

-- below a root no leaf is without a row, and no interior page without a cell. `cells` of them stand in front
abbrev pub IsFilled : ℕ → Tree → Type 0
IsFilled cells (Leaf page rows) = 1 ≤ length rows
IsFilled cells (Child child key more) = IsFilled 0 child × IsFilled (cells + 1) more
IsFilled cells (Right page child) = (1 ≤ cells) × IsFilled 0 child

-- a root may be a leaf without a row; and only page 1 may be an interior page without a cell, over one child
abbrev pub IsFilledRoot : Tree → Type 0
IsFilledRoot (Leaf page rows) = ⊤
IsFilledRoot (Child child key more) = IsFilled 0 child × IsFilled 1 more
IsFilledRoot (Right page child) = (page ≡ 1) × IsFilled 0 child

-- the tree with other rows in the leaf on a page
abbrev pub with_leaf : ℕ → List Row → Tree → Tree
with_leaf at rows (Leaf page old) = if nat_eq page at then Leaf at rows else Leaf page old
with_leaf at rows (Child child key more) = Child (with_leaf at rows child) key (with_leaf at rows more)
with_leaf at rows (Right page child) = Right page (with_leaf at rows child)
