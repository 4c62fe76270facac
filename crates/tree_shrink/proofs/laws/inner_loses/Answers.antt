use Rattle.tree_shrink.proofs.LevelLemmas.{inner_loses}
use Rattle.tree_shrink.proofs.laws.inner_loses.Goals as goal

pub returns : goal.returns
returns c = inner_loses
