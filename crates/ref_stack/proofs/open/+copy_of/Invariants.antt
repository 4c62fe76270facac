use Rattle.std.proofs.Common.{length}
use Rattle.ref_stack.proofs.open.+copy_of.Given as goal

abbrev pub decreases-copy_of : goal.decreases-copy_of
decreases-copy_of l = length l.files.now
