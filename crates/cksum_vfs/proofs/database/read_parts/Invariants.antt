use Rattle.std.proofs.Common.{◌≡◌, ◌-◌, ◌≤◌, length, take, Ok}
use Rattle.vfs_trait.specs.State.{name_at}
use Rattle.cksum_vfs.specs.Summed.{over}
use Rattle.cksum_vfs.specs.Steps.{IsUnchanged, IsRead}
use Rattle.cksum_vfs.proofs.database.read_parts.Given as goal

-- so many bytes were read, and all of them lie in the file
abbrev pub invariant-loop-done : goal.invariant-loop-done
invariant-loop-done g l = record {
  within : l.done ≤ length l.buf;
  same : l.below.size ≡ l.fn.below.size;
  unchanged : IsUnchanged (g.V.Vfs.state l.fn.below.inner) (g.V.Vfs.state l.below.inner);
  read : IsRead (over l.fn.below.size (g.V.Vfs.state l.fn.below.inner)) (over l.fn.below.size (g.V.Vfs.state l.below.inner)) (name_at (g.V.Vfs.state l.fn.below.inner) l.fid.0) l.off (take l.done l.buf) (Ok l.done);
}

abbrev pub decreases-loop-done : goal.decreases-loop-done
decreases-loop-done g l = length l.buf - l.done
