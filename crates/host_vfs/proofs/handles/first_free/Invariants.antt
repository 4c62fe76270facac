use Rattle.std.proofs.Common.{ℕ, ◌<◌, IsSome}
use Rattle.host_vfs.specs.Open.{open_name}
use Rattle.host_vfs.proofs.handles.first_free.Given as goal

abbrev pub invariant-loop-fid : goal.invariant-loop-fid
invariant-loop-fid l = (other : ℕ) → other < l.fid → IsSome (open_name l.handles other)
