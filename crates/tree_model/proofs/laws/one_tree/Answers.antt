use Rattle.tree_model.proofs.OneTreeLemmas.{one_tree}
use Rattle.tree_model.proofs.laws.one_tree.Goals as goal

pub returns : goal.returns
returns c = one_tree c.one_page.ensures c.one_chain.ensures
