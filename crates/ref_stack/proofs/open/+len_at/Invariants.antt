use Rattle.std.proofs.Common.{length}
use Rattle.ref_stack.proofs.open.+len_at.Given as goal

abbrev pub decreases-len_at : goal.decreases-len_at
decreases-len_at l = length l.files.now
