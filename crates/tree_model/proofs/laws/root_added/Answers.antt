use Rattle.tree_model.proofs.WholeLemmas.{root_added}
use Rattle.tree_model.proofs.laws.root_added.Goals as goal

pub returns : goal.returns
returns c = root_added
