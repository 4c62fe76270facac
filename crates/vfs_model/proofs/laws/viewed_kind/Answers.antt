use Rattle.vfs_model.proofs.ChunkLemmas.{viewed_kind}
use Rattle.vfs_model.proofs.laws.viewed_kind.Goals as goal

pub returns : goal.returns
returns c = viewed_kind
