use Rattle.shell_laws.proofs.CommandLemmas.{reference_allowed}
use Rattle.shell_laws.proofs.reference_is_allowed.Goals as goal

pub returns : goal.returns
returns c = reference_allowed
