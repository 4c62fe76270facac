use Rattle.tree_plan.proofs.PathLemmas.{path_planned}
use Rattle.tree_plan.proofs.laws.path_planned.Goals as goal

pub returns : goal.returns
returns c = path_planned
