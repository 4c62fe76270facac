use Rattle.tree_model.proofs.PathLemmas.{path_finds}
use Rattle.tree_model.proofs.laws.path_finds.Goals as goal

pub returns : goal.returns
returns c = path_finds
