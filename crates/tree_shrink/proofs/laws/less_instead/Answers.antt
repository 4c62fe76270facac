use Rattle.tree_shrink.proofs.LevelLemmas.{less_instead}
use Rattle.tree_shrink.proofs.laws.less_instead.Goals as goal

pub returns : goal.returns
returns c = less_instead
