use Rattle.tree_model.proofs.WalkLemmas.{walk_gives}
use Rattle.tree_model.proofs.laws.walk_gives.Goals as goal

pub returns : goal.returns
returns c = walk_gives
