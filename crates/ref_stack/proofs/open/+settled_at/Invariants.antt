use Rattle.std.proofs.Common.{length}
use Rattle.ref_stack.proofs.open.+settled_at.Given as goal

abbrev pub decreases-settled_at : goal.decreases-settled_at
decreases-settled_at l = length l.files.now
