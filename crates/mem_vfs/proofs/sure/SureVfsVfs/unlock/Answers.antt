use Rattle.std.proofs.Common.{rules}
use Rattle.mem_vfs.proofs.StandLemmas.{stands}
use Rattle.mem_vfs.proofs.sure.SureVfsVfs.unlock.Goals as goal

pub returns-clause-stands : goal.returns-clause-stands
returns-clause-stands c = stands _ _ _ (search rules)
