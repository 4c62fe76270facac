use Rattle.std.proofs.Common.{◌+◌, ◌*◌, ◌-◌, length}
use Rattle.ref_stack.proofs.write.+passes.Given as goal

abbrev pub decreases-pass : goal.decreases-pass
decreases-pass l = 300000 * length l.layers.now

abbrev pub decreases-pass_appended : goal.decreases-pass_appended
decreases-pass_appended l = 300000 * length l.below.now + 1

abbrev pub decreases-pass_counted : goal.decreases-pass_counted
decreases-pass_counted l = 300000 * length l.below.now + 1

abbrev pub decreases-by_chunks : goal.decreases-by_chunks
decreases-by_chunks l = 300000 * length l.below.now + 1 + 2 * (100000 - l.number)

abbrev pub decreases-then_chunks : goal.decreases-then_chunks
decreases-then_chunks l = 300000 * length l.below.now + 2 + 2 * (100000 - l.number)
