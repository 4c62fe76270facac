use Rattle.tree_laws.proofs.ReplaceLemmas.{tree_replaced}
use Rattle.tree_laws.proofs.replace.tree_replaced.Goals as goal

pub returns : goal.returns
returns c = tree_replaced c.header_in_front.ensures
