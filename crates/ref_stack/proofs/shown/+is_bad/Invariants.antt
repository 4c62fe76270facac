use Rattle.std.proofs.Common.{length}
use Rattle.ref_stack.proofs.shown.+is_bad.Given as goal

abbrev pub decreases-is_bad : goal.decreases-is_bad
decreases-is_bad l = length l.layers.now
