use Rattle.std.proofs.Common.{take}
use Rattle.std.specs.List.{AllByRecursion}
use Rattle.tree_model.specs.Tree.{Within, rowid}
use Rattle.ref_trees.specs.GatherSteps.{low_of}
use Rattle.ref_trees.proofs.gather.are_within.Given as goal

-- those so far are within
abbrev pub invariant-loop-row : goal.invariant-loop-row
invariant-loop-row l = AllByRecursion (λ row. Within (low_of l.low) l.high (rowid row)) (take l.row-index l.rows)
