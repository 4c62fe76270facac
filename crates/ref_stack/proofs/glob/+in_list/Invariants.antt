use Rattle.std.proofs.Common.{length}
use Rattle.ref_stack.proofs.glob.+in_list.Given as goal

abbrev pub decreases-in_list : goal.decreases-in_list
decreases-in_list l = length l.list.now
