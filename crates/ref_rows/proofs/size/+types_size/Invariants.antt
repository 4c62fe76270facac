use Rattle.std.proofs.Common.{length}
use Rattle.ref_rows.proofs.size.+types_size.Given as goal

abbrev pub decreases-types_size : goal.decreases-types_size
decreases-types_size l = length l.values.now
