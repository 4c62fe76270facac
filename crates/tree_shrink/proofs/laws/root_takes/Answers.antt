use Rattle.tree_shrink.proofs.RootLemmas.{root_takes}
use Rattle.tree_shrink.proofs.laws.root_takes.Goals as goal

pub returns : goal.returns
returns c = root_takes
