use Rattle.std.proofs.Common.{length}
use Rattle.ref_stack.proofs.open.+place_at.Given as goal

abbrev pub decreases-place_at : goal.decreases-place_at
decreases-place_at l = length l.files.now
