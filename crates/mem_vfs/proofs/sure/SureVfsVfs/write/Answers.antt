use Rattle.std.proofs.Common.{[], refl}
use Rattle.vfs_model.specs.Pass.{pass}
use Rattle.mem_vfs.proofs.sure.SureVfsVfs.write.Goals as goal

-- a stack without layers refuses no write as full
pub returns-in-Ok-clause-cause : goal.returns-in-Ok-clause-cause
unfolding pass
returns-in-Ok-clause-cause c = λ told main. ([], refl)

-- and counts no lengths
pub returns-in-Ok-clause-counts : goal.returns-in-Ok-clause-counts
unfolding pass
returns-in-Ok-clause-counts c = λ told main. (refl, λ counted. refl)
