use Rattle.tree_shrink.proofs.RunLemmas.{run_widens}
use Rattle.tree_shrink.proofs.laws.run_widens.Goals as goal

pub returns : goal.returns
returns c = run_widens
