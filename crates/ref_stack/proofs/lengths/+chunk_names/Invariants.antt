use Rattle.std.proofs.Common.{◌-◌}
use Rattle.ref_stack.proofs.lengths.+chunk_names.Given as goal

abbrev pub decreases-chunk_names : goal.decreases-chunk_names
decreases-chunk_names l = 100000 - l.number
