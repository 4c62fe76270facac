use Rattle.tree_page.proofs.OneLemmas.{one_page}
use Rattle.tree_page.proofs.read.one_page.Goals as goal

pub returns : goal.returns
returns c = one_page c.one_varint.ensures
