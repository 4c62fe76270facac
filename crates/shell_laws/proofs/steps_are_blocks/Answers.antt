use Rattle.shell_laws.proofs.StepLemmas.{is_block}
use Rattle.shell_laws.proofs.steps_are_blocks.Goals as goal

pub returns : goal.returns
returns c = is_block
