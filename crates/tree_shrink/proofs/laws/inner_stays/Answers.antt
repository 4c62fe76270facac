use Rattle.tree_shrink.proofs.LevelLemmas.{inner_stays}
use Rattle.tree_shrink.proofs.laws.inner_stays.Goals as goal

pub returns : goal.returns
returns c = inner_stays
