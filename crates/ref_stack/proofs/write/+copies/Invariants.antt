use Rattle.std.proofs.Common.{length}
use Rattle.ref_stack.proofs.write.+copies.Given as goal

abbrev pub decreases-copies : goal.decreases-copies
decreases-copies l = length l.lengths.now
