use Rattle.tree_shrink.proofs.RootLemmas.{root_leaf_less}
use Rattle.tree_shrink.proofs.laws.root_leaf_less.Goals as goal

pub returns : goal.returns
returns c = root_leaf_less
