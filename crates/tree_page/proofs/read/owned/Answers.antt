use Rattle.tree_page.proofs.PageLemmas.{owns_inners}
use Rattle.tree_page.proofs.read.owned.Goals as goal

pub returns-in_ok-cells-in-Interior : goal.returns-in_ok-cells-in-Interior
returns-in_ok-cells-in-Interior c = owns_inners c.args.bytes.now c.args.head c.args.found.now c.in_ok-cells-in-Interior.cells c.in-Interior.is c.in_ok-cells-in-Interior.ensures
