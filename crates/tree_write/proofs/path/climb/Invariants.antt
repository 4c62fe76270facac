use Rattle.std.proofs.Common.{length}
use Rattle.tree_write.proofs.ClimbLemmas.{ClimbsAlong}
use Rattle.tree_write.proofs.path.climb.Given as goal

abbrev pub invariant-loop-level : goal.invariant-loop-level
invariant-loop-level g l =
    let state = g.S.PageSpace.state in
    record {
      along : ClimbsAlong (state l.initial.space) (state l.space) l.initial.number l.initial.sheets l.initial.levels.items l.levels.items l.number l.sheets l.out.items;
    }

abbrev pub decreases-loop-level : goal.decreases-loop-level
decreases-loop-level g l = length l.levels.items
