use Rattle.std.proofs.Common.{length}
use Rattle.ref_stack.proofs.quota.+total_of.Given as goal

abbrev pub decreases-total_of : goal.decreases-total_of
decreases-total_of l = length l.files.now
