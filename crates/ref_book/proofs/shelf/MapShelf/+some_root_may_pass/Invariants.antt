use Rattle.std.proofs.Common.{length}
use Rattle.ref_book.proofs.shelf.MapShelf.+some_root_may_pass.Given as goal

abbrev pub decreases-some_root_may_pass : goal.decreases-some_root_may_pass
decreases-some_root_may_pass l = length l.roots.now
