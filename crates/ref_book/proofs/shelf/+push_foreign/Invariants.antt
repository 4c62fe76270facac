use Rattle.std.proofs.Common.{length}
use Rattle.ref_book.proofs.shelf.+push_foreign.Given as goal

abbrev pub decreases-push_foreign : goal.decreases-push_foreign
decreases-push_foreign l = length l.foreign.now
