use Rattle.std.proofs.Common.{length}
use Rattle.ref_book.proofs.need.+left_of_chains.Given as goal

abbrev pub decreases-left_of_chains : goal.decreases-left_of_chains
decreases-left_of_chains l = length l.rows.now
