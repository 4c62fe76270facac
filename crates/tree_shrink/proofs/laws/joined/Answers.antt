use Rattle.tree_shrink.proofs.RunLemmas.{joined}
use Rattle.tree_shrink.proofs.laws.joined.Goals as goal

pub returns : goal.returns
returns c = joined
