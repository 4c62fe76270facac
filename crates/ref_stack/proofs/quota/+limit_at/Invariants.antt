use Rattle.std.proofs.Common.{length}
use Rattle.ref_stack.proofs.quota.+limit_at.Given as goal

abbrev pub decreases-limit_at : goal.decreases-limit_at
decreases-limit_at l = length l.limits.now
