use Rattle.tree_laws.proofs.ReplaceLemmas.{top_moved}
use Rattle.tree_laws.proofs.replace.top_moved.Goals as goal

pub returns : goal.returns
returns c = top_moved
