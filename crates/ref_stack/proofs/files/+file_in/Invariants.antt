use Rattle.std.proofs.Common.{length}
use Rattle.ref_stack.proofs.files.+file_in.Given as goal

abbrev pub decreases-file_in : goal.decreases-file_in
decreases-file_in l = length l.files.now
