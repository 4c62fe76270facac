use Rattle.std.specs.Int.{int_gap}
use Rattle.ref_pages.specs.AsPages.{pages_of}
use Rattle.ref_trees.specs.Steps.{HasGone}
use Rattle.ref_trees.proofs.walk.walk_of.Given as goal

abbrev pub invariant-loop-key : goal.invariant-loop-key
invariant-loop-key l = HasGone l.columns (pages_of l.pages) l.root l.low l.high l.rows l.key

abbrev pub decreases-loop-key : goal.decreases-loop-key
decreases-loop-key l = int_gap l.key l.high
