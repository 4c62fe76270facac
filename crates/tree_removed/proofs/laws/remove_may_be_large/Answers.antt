use Rattle.tree_removed.proofs.LargeLemmas.{remove_may_be_large}
use Rattle.tree_removed.proofs.laws.remove_may_be_large.Goals as goal

pub returns : goal.returns
returns c = remove_may_be_large c.front_apart.ensures c.one_page.ensures
