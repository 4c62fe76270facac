use Rattle.tree_page.proofs.FrontLemmas.{front_apart}
use Rattle.tree_page.proofs.laws.front_apart.Goals as goal

pub returns : goal.returns
returns c = front_apart
