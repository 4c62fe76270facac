use Rattle.lock_table.proofs.KeptLemmas.{IsSafe-reached}
use Rattle.lock_table.proofs.one_writer.Goals as goal

pub returns : goal.returns
returns c = λ levels owner other reached. (IsSafe-reached levels reached).writer owner other
