use Rattle.tree_model.proofs.WholeLemmas.{whole_stays}
use Rattle.tree_model.proofs.laws.whole_stays.Goals as goal

pub returns : goal.returns
returns c = whole_stays
