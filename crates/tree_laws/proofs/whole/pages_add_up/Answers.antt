use Rattle.tree_laws.proofs.CountLemmas.{pages_add_up}
use Rattle.tree_laws.proofs.whole.pages_add_up.Goals as goal

pub returns : goal.returns
returns c = pages_add_up
