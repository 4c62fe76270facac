use Rattle.tree_laws.proofs.KeptLemmas.{front_kept}
use Rattle.tree_laws.proofs.front.front_kept.Goals as goal

pub returns : goal.returns
returns c = front_kept c.takes_keep.ensures c.gives_keep.ensures
