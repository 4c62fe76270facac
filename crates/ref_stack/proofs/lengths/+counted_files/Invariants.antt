use Rattle.std.proofs.Common.{length}
use Rattle.ref_stack.proofs.lengths.+counted_files.Given as goal

abbrev pub decreases-counted_files : goal.decreases-counted_files
decreases-counted_files l = length l.names.now
