use Rattle.std.proofs.Common.{◌≡◌, ◌++◌, drop}
use Rattle.tree_model.specs.Walk.{all_children}
use Rattle.ref_trees.proofs.walk.all_children.Given as goal

abbrev pub invariant-loop-cell : goal.invariant-loop-cell
invariant-loop-cell l = all_children l.cells l.right ≡ l.children ++ all_children (drop l.cell-index l.cells) l.right
