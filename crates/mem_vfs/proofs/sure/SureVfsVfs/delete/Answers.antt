use Rattle.std.proofs.Common.{rules}
use Rattle.mem_vfs.proofs.sure.SureVfsVfs.delete.Goals as goal

pub invariant_of-self-clause-apart : goal.invariant_of-self-clause-apart
invariant_of-self-clause-apart c = search rules
