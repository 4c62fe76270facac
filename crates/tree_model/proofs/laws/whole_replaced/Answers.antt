use Rattle.tree_model.proofs.OthersLemmas.{whole_replaced}
use Rattle.tree_model.proofs.laws.whole_replaced.Goals as goal

pub returns : goal.returns
returns c = whole_replaced c.header_in_front.ensures
