use Rattle.journal_format.proofs.BackLemmas.{read_back_holds}
use Rattle.journal_format.proofs.laws.read_back.Goals as goal

pub returns : goal.returns
returns c = read_back_holds
