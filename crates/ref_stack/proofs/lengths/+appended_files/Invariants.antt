use Rattle.std.proofs.Common.{length}
use Rattle.ref_stack.proofs.lengths.+appended_files.Given as goal

abbrev pub decreases-appended_files : goal.decreases-appended_files
decreases-appended_files l = length l.names.now
