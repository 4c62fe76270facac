use Rattle.std.proofs.Common.{length}
use Rattle.ref_stack.proofs.lengths.+lengths_shown.Given as goal

abbrev pub decreases-lengths_shown : goal.decreases-lengths_shown
decreases-lengths_shown l = length l.layers.now
