use Rattle.shell_top.proofs.FaultLemmas.{faults_counted}
use Rattle.shell_top.proofs.faults_are_counted.Goals as goal

pub returns : goal.returns
returns c = faults_counted
