use Rattle.tree_model.proofs.StayLemmas.{tree_stays}
use Rattle.tree_model.proofs.laws.tree_stays.Goals as goal

pub returns : goal.returns
returns c = tree_stays
