use Rattle.tree_removed.proofs.RemovesLemmas.{shrink_removes}
use Rattle.tree_removed.proofs.laws.shrink_removes.Goals as goal

pub returns : goal.returns
returns c = shrink_removes c.one_page.ensures
