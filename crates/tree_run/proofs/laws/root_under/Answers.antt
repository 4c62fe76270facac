use Rattle.tree_run.proofs.RootLemmas.{root_under}
use Rattle.tree_run.proofs.laws.root_under.Goals as goal

pub returns : goal.returns
returns c = root_under
