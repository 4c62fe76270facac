use Rattle.std.proofs.Common.{length}
use Rattle.ref_stack.proofs.lengths.+all_chunks.Given as goal

abbrev pub decreases-all_chunks : goal.decreases-all_chunks
decreases-all_chunks l = length l.names.now
