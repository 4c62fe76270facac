use Rattle.std.proofs.Common.{length}
use Rattle.ref_book.proofs.foreign.+foreign_of.Given as goal

abbrev pub decreases-foreign_of : goal.decreases-foreign_of
decreases-foreign_of l = length l.records.now
