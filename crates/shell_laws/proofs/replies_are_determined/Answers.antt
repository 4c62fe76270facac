use Rattle.shell_laws.proofs.CommandLemmas.{determined}
use Rattle.shell_laws.proofs.replies_are_determined.Goals as goal

pub returns : goal.returns
returns c = determined
