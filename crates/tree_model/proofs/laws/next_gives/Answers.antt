use Rattle.tree_model.proofs.WalkLemmas.{next_gives}
use Rattle.tree_model.proofs.laws.next_gives.Goals as goal

pub returns : goal.returns
returns c = next_gives
