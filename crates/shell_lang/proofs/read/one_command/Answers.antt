use Rattle.shell_lang.proofs.LineLemmas.{one_command}
use Rattle.shell_lang.proofs.read.one_command.Goals as goal

pub returns : goal.returns
returns c = one_command
