use Rattle.tree_laws.proofs.RootLemmas.{root_removed}
use Rattle.tree_laws.proofs.whole.root_removed.Goals as goal

pub returns : goal.returns
returns c = root_removed
