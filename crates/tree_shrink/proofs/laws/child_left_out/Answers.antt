use Rattle.tree_shrink.proofs.RunLemmas.{child_left_out}
use Rattle.tree_shrink.proofs.laws.child_left_out.Goals as goal

pub returns : goal.returns
returns c = child_left_out
