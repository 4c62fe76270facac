use Rattle.tree_shrink.proofs.RootLemmas.{no_sibling}
use Rattle.tree_shrink.proofs.laws.no_sibling.Goals as goal

pub returns : goal.returns
returns c = no_sibling
