use Rattle.std.proofs.Common.{ℕ, ◌<◌}
use Rattle.vfs_model.specs.Lock.{IsOwner, rank, level_at}
use Rattle.host_vfs.proofs.handles.is_reserved.Given as goal

-- no lesser owner holds Reserved
abbrev pub invariant-loop-number : goal.invariant-loop-number
invariant-loop-number l = (other : ℕ) → other < l.number → IsOwner other → rank (level_at l.locks other) < 2
