use Rattle.tree_shrink.proofs.LevelLemmas.{leaf_less}
use Rattle.tree_shrink.proofs.laws.leaf_less.Goals as goal

pub returns : goal.returns
returns c = leaf_less
