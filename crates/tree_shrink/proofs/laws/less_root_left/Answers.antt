use Rattle.tree_shrink.proofs.RootLemmas.{less_root_left}
use Rattle.tree_shrink.proofs.laws.less_root_left.Goals as goal

pub returns : goal.returns
returns c = less_root_left
