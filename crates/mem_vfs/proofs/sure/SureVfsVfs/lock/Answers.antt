use Rattle.std.proofs.Common.{rules}
use Rattle.mem_vfs.proofs.StandLemmas.{stands}
use Rattle.mem_vfs.proofs.sure.SureVfsVfs.lock.Goals as goal

pub returns-in-Ok-clause-stands : goal.returns-in-Ok-clause-stands
returns-in-Ok-clause-stands c = stands _ _ _ (search rules)

pub returns-in-Err-clause-stands : goal.returns-in-Err-clause-stands
returns-in-Err-clause-stands c = stands _ _ _ (search rules)
