use Rattle.tree_plan.proofs.LawLemmas.{inner_planned}
use Rattle.tree_plan.proofs.laws.inner_planned.Goals as goal

pub returns : goal.returns
returns c = inner_planned
