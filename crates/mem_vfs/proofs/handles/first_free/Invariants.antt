use Rattle.std.proofs.Common.{ℕ, ◌<◌, IsSome}
use Rattle.mem_vfs.specs.Memory.{open_name}
use Rattle.mem_vfs.proofs.handles.first_free.Given as goal

abbrev pub invariant-loop-fid : goal.invariant-loop-fid
invariant-loop-fid l = (other : ℕ) → other < l.fid → IsSome (open_name l.handles other)
