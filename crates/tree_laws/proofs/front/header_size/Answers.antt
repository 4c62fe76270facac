use Rattle.tree_laws.proofs.SizeLemmas.{header_size}
use Rattle.tree_laws.proofs.front.header_size.Goals as goal

pub returns : goal.returns
returns c = header_size
