use Rattle.tree_shrink.proofs.RootLemmas.{root_empty}
use Rattle.tree_shrink.proofs.laws.root_empty.Goals as goal

pub returns : goal.returns
returns c = root_empty
