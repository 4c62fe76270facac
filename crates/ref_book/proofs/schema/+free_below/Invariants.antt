use Rattle.std.proofs.Common.{length}
use Rattle.ref_book.proofs.schema.+free_below.Given as goal

abbrev pub decreases-free_below : goal.decreases-free_below
decreases-free_below l = length l.schema.now
