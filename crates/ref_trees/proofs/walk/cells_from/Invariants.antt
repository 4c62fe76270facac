use Rattle.std.proofs.Common.{◌≡◌, ℕ, drop}
use Rattle.tree_model.specs.Walk.{children_from}
use Rattle.ref_trees.specs.Steps.{from_of}
use Rattle.ref_trees.proofs.walk.cells_from.Given as goal

abbrev pub invariant-loop-at : goal.invariant-loop-at
invariant-loop-at l = (right : ℕ) → children_from (from_of l.from) l.cells right ≡ children_from (from_of l.from) (drop l.at l.cells) right
