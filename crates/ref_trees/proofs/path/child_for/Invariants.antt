use Rattle.std.proofs.Common.{◌≡◌, drop}
use Rattle.tree_model.specs.Walk.{child_for}
use Rattle.ref_trees.proofs.path.child_for.Given as goal

abbrev pub invariant-loop-inner : goal.invariant-loop-inner
invariant-loop-inner l = child_for l.key l.cells l.right ≡ child_for l.key (drop l.inner-index l.cells) l.right
