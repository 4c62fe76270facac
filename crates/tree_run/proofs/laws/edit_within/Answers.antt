use Rattle.tree_run.proofs.EditLemmas.{edit_within}
use Rattle.tree_run.proofs.laws.edit_within.Goals as goal

pub returns : goal.returns
returns c = edit_within
