use Rattle.shell_laws.proofs.RunLemmas.{runs_agree}
use Rattle.shell_laws.proofs.runs_agree.Goals as goal

pub returns : goal.returns
returns c = runs_agree
