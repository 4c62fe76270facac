use Rattle.tree_model.proofs.RiseLemmas.{rows_rise}
use Rattle.tree_model.proofs.laws.rows_rise.Goals as goal

pub returns : goal.returns
returns c = rows_rise
