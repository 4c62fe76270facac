use Rattle.tree_model.proofs.ReplaceLemmas.{leaf_replaced}
use Rattle.tree_model.proofs.laws.leaf_replaced.Goals as goal

pub returns : goal.returns
returns c = leaf_replaced
