use Rattle.std.proofs.Common.{length}
use Rattle.ref_stack.proofs.quota.+group_from.Given as goal

abbrev pub decreases-group_from : goal.decreases-group_from
decreases-group_from l = length l.groups.now
