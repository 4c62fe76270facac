use Rattle.std.proofs.Common.{◌≡◌, drop}
use Rattle.tree_model.specs.Walk.{first_from}
use Rattle.ref_trees.proofs.path.first_from.Given as goal

abbrev pub invariant-loop-cell : goal.invariant-loop-cell
invariant-loop-cell l = first_from l.key l.cells ≡ first_from l.key (drop l.cell-index l.cells)
