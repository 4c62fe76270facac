use Rattle.vfs_model.proofs.LengthLemmas.{others_keep}
use Rattle.vfs_model.proofs.laws.others_keep.Goals as goal

pub returns : goal.returns
returns c = others_keep
