use Rattle.std.proofs.Common.{◌≡◌, take}
use Rattle.tree_level.specs.Level.{up_cells}
use Rattle.tree_write.proofs.root.cells_over.Given as goal

abbrev pub invariant-loop-sheet : goal.invariant-loop-sheet
invariant-loop-sheet l = l.cells ≡ up_cells (take l.sheet-index l.front)
