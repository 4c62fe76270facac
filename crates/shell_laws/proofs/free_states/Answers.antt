use Rattle.shell_laws.proofs.FreeLemmas.{free_states}
use Rattle.shell_laws.proofs.free_states.Goals as goal

pub returns : goal.returns
returns c = free_states
