use Rattle.std.proofs.Common.{length}
use Rattle.ref_rows.proofs.size.+contents_size.Given as goal

abbrev pub decreases-contents_size : goal.decreases-contents_size
decreases-contents_size l = length l.values.now
