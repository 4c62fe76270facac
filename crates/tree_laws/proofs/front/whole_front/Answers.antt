use Rattle.tree_laws.proofs.FrontLemmas.{whole_front}
use Rattle.tree_laws.proofs.front.whole_front.Goals as goal

pub returns : goal.returns
returns c = whole_front c.front_apart.ensures
