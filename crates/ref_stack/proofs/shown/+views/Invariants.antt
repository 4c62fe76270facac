use Rattle.std.proofs.Common.{◌+◌, ◌*◌, ◌-◌, length}
use Rattle.ref_stack.proofs.shown.+views.Given as goal

abbrev pub decreases-through : goal.decreases-through
decreases-through l = 200000 * length l.layers.now

abbrev pub decreases-in_chunks : goal.decreases-in_chunks
decreases-in_chunks l = 200000 * length l.below.now + 100002

abbrev pub decreases-bytes_from : goal.decreases-bytes_from
decreases-bytes_from l = 200000 * length l.below.now + 1 + (100000 - l.number)
