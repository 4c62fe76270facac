use Rattle.journal_format.proofs.ColdLemmas.{closed_is_cold_holds}
use Rattle.journal_format.proofs.laws.closed_is_cold.Goals as goal

pub returns : goal.returns
returns c = closed_is_cold_holds
