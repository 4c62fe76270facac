use Rattle.shell_laws.proofs.StepLemmas.{is_printed}
use Rattle.shell_laws.proofs.steps_are_printable.Goals as goal

pub returns : goal.returns
returns c = is_printed
