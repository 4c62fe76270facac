use Rattle.shell_laws.proofs.RowLemmas.{get_tells}
use Rattle.shell_laws.proofs.gets_tell.Goals as goal

pub returns : goal.returns
returns c = get_tells
