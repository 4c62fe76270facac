use Rattle.tree_laws.proofs.ReplaceLemmas.{widens}
use Rattle.tree_laws.proofs.replace.widens.Goals as goal

pub returns : goal.returns
returns c = widens
