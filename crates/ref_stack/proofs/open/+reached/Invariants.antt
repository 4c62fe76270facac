use Rattle.std.proofs.Common.{length}
use Rattle.ref_stack.proofs.open.+reached.Given as goal

abbrev pub decreases-reached : goal.decreases-reached
decreases-reached l = length l.files.now
