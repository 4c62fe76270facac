use Rattle.tree_laws.proofs.TakeLemmas.{whole_takes}
use Rattle.tree_laws.proofs.whole.whole_takes.Goals as goal

pub returns : goal.returns
returns c = whole_takes c.front_apart.ensures c.takes_keep.ensures
