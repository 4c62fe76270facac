-- An interior page as the list of its children.
-- After sqlite.org, "Database File Format", section 1.6, "B-tree Pages".
use Rattle.std.specs.Prelude.{ℕ, ℤ, List, [], ◌∷◌, map}
use Rattle.std.specs.List.{flat_map}
use Rattle.tree_page.specs.declared.cell.InnerCell.{InnerCell}
use Rattle.tree_model.specs.Tree.{Row, Tree, Child, root_of, rows_of, pages_of}

-- a child and the key behind it
pub record Piece : Type 0 where
  pub tree : Tree
  pub key : ℤ

-- children in front of the rest of an interior page
abbrev pub join : List Piece → Tree → Tree
join [] rest = rest
join (piece ∷ more) rest = Child piece.tree piece.key (join more rest)

-- the cells of these children, their rows, and their pages
abbrev pub cell_of : Piece → InnerCell
cell_of piece = record { child = root_of piece.tree; rowid = piece.key }

abbrev pub cells_of : List Piece → List InnerCell
cells_of pieces = map cell_of pieces

abbrev pub rows_in : List Piece → List Row
rows_in pieces = flat_map (λ piece. rows_of piece.tree) pieces

abbrev pub pages_in : List Piece → List ℕ
pages_in pieces = flat_map (λ piece. pages_of piece.tree) pieces

-- the last of their keys, or a bound where there is none
abbrev pub last_key : ℤ → List Piece → ℤ
last_key low [] = low
last_key low (piece ∷ more) = last_key piece.key more
