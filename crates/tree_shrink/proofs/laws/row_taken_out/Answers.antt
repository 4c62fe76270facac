use Rattle.tree_shrink.proofs.RowLemmas.{row_taken_out}
use Rattle.tree_shrink.proofs.laws.row_taken_out.Goals as goal

pub returns : goal.returns
returns c = row_taken_out
