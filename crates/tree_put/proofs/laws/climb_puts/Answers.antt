use Rattle.tree_put.proofs.PutsLemmas.{climb_puts}
use Rattle.tree_put.proofs.laws.climb_puts.Goals as goal

pub returns : goal.returns
returns c = climb_puts c.one_page.ensures
