use Rattle.std.proofs.Common.{length}
use Rattle.ref_stack.proofs.sums.+sums.Given as goal

abbrev pub decreases-sums : goal.decreases-sums
decreases-sums l = length l.bytes.now
