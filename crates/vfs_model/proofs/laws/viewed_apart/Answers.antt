use Rattle.vfs_model.proofs.ChunkLemmas.{viewed_apart}
use Rattle.vfs_model.proofs.laws.viewed_apart.Goals as goal

pub returns : goal.returns
returns c = viewed_apart
