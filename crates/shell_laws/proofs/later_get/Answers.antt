use Rattle.shell_laws.proofs.RowLemmas.{later_get}
use Rattle.shell_laws.proofs.later_get.Goals as goal

pub returns : goal.returns
returns c = later_get
