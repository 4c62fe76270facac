use Rattle.std.proofs.Common.{length}
use Rattle.ref_book.proofs.twin.+push_twins.Given as goal

abbrev pub decreases-push_twins : goal.decreases-push_twins
decreases-push_twins g l = length l.items.now
