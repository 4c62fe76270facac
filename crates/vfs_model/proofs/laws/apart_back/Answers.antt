use Rattle.vfs_model.proofs.LengthLemmas.{apart_back, differ}
use Rattle.vfs_model.proofs.laws.apart_back.Goals as goal

pub returns : goal.returns
returns c = λ layers name other h. (apart_back layers name other h, differ layers name other h)
