use Rattle.std.proofs.Common.{◌↔◌, drop}
use Rattle.tree_join.specs.Join.{KeysRise}
use Rattle.tree_join.proofs.RiseLemmas.{AreBehind}
use Rattle.tree_join.proofs.rise.rises.Given as goal

abbrev pub invariant-loop-cell : goal.invariant-loop-cell
invariant-loop-cell l = KeysRise l.cells ↔ AreBehind l.last (drop l.cell-index l.cells)
