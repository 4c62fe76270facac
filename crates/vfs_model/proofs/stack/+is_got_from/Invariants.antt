use Rattle.std.proofs.Common.{length}
use Rattle.vfs_model.proofs.stack.+is_got_from.Given as goal

abbrev pub decreases-is_got_from : goal.decreases-is_got_from
decreases-is_got_from l = length l.places.now
