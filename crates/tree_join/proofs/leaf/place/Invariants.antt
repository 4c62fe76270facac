use Rattle.std.proofs.Common.{◌<ℤ◌, take}
use Rattle.std.specs.List.{AllByRecursion}
use Rattle.tree_join.proofs.leaf.place.Given as goal

abbrev pub invariant-loop-at : goal.invariant-loop-at
invariant-loop-at l = AllByRecursion (λ cell. cell.rowid <ℤ l.key) (take l.at l.cells)
