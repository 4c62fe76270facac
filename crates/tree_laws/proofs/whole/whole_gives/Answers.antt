use Rattle.tree_laws.proofs.TakeLemmas.{whole_gives}
use Rattle.tree_laws.proofs.whole.whole_gives.Goals as goal

pub returns : goal.returns
returns c = whole_gives c.front_apart.ensures c.gives_keep.ensures
