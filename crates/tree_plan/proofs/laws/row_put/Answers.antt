use Rattle.tree_plan.proofs.LawLemmas.{row_put}
use Rattle.tree_plan.proofs.laws.row_put.Goals as goal

pub returns : goal.returns
returns c = row_put
