use Rattle.tree_laws.proofs.HeaderLemmas.{header_stays}
use Rattle.tree_laws.proofs.front.header_stays.Goals as goal

pub returns : goal.returns
returns c = header_stays
