use Rattle.std.proofs.Common.{◌≤◌, length}
use Rattle.host_vfs.proofs.folder.read_on.Given as goal

abbrev pub invariant-reads : goal.invariant-reads
invariant-reads g l = l.count ≤ length l.buf
