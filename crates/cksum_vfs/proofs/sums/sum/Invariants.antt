use Rattle.std.proofs.Common.{◌≡◌, length}
use Rattle.vfs_model.specs.Sums.{sums, sum_of}
use Rattle.cksum_vfs.proofs.sums.sum.Given as goal

-- what is added and what the rest will add
abbrev pub invariant-loop-rest : goal.invariant-loop-rest
invariant-loop-rest l = sums (l.first, l.second) l.rest ≡ sum_of l.page

abbrev pub decreases-loop-rest : goal.decreases-loop-rest
decreases-loop-rest l = length l.rest
