use Rattle.tree_put.proofs.WayLemmas.{path_steps}
use Rattle.tree_put.proofs.laws.path_steps.Goals as goal

pub returns : goal.returns
returns c = path_steps c.one_page.ensures
