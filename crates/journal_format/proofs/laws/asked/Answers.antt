use Rattle.journal_format.proofs.AskLemmas.{asked_holds}
use Rattle.journal_format.proofs.laws.asked.Goals as goal

pub returns : goal.returns
returns c = asked_holds
