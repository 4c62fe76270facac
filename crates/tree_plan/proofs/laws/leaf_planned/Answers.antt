use Rattle.tree_plan.proofs.LawLemmas.{leaf_planned}
use Rattle.tree_plan.proofs.laws.leaf_planned.Goals as goal

pub returns : goal.returns
returns c = leaf_planned
