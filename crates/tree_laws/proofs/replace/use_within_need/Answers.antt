use Rattle.tree_laws.proofs.NeedLemmas.{use_within_need}
use Rattle.tree_laws.proofs.replace.use_within_need.Goals as goal

pub returns : goal.returns
returns c = use_within_need
