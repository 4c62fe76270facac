use Rattle.std.proofs.Common.{length}
use Rattle.ref_book.proofs.load.+push_roots.Given as goal

abbrev pub decreases-push_roots : goal.decreases-push_roots
decreases-push_roots l = length l.found.now
