use Rattle.vfs_model.proofs.SoundLemmas.{composed}
use Rattle.vfs_model.proofs.laws.views_compose.Goals as goal

pub returns : goal.returns
returns c = composed
