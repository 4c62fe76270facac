use Rattle.tree_shrink.proofs.RunLemmas.{run_replaced}
use Rattle.tree_shrink.proofs.laws.run_replaced.Goals as goal

pub returns : goal.returns
returns c = run_replaced
