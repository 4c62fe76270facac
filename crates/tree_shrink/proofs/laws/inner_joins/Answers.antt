use Rattle.tree_shrink.proofs.JoinLemmas.{inner_joins}
use Rattle.tree_shrink.proofs.laws.inner_joins.Goals as goal

pub returns : goal.returns
returns c = inner_joins
