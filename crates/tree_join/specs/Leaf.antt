-- A row taken out of a leaf.
use Rattle.std.specs.Prelude.{◌≡◌, ℤ, int_le, if◌then◌else◌, List, [], ◌∷◌, Some}
use Rattle.tree_page.specs.declared.cell.LeafCell.{LeafCell}
use Rattle.tree_plan.specs.Plan.{cell_of}
use Rattle.tree_join.specs.declared.leaf.Taken.{Taken}

-- the cells of a leaf without the one of a rowid
abbrev pub other_cells : ℤ → List LeafCell → List LeafCell
other_cells key [] = []
other_cells key (c ∷ more) = if int_le key c.rowid then (if int_le c.rowid key then more else c ∷ more) else c ∷ other_cells key more

-- the cell of a rowid and the others
pub record IsTakenOut (key : ℤ) (cells : List LeafCell) (taken : Taken) : Type 0 where
  pub cell : cell_of key cells ≡ Some taken.cell
  pub others : taken.others ≡ other_cells key cells
