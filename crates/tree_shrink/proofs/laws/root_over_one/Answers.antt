use Rattle.tree_shrink.proofs.RootLemmas.{root_over_one}
use Rattle.tree_shrink.proofs.laws.root_over_one.Goals as goal

pub returns : goal.returns
returns c = root_over_one
