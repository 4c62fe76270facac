use Rattle.journal_format.proofs.ColdLemmas.{short_is_cold_holds}
use Rattle.journal_format.proofs.laws.short_is_cold.Goals as goal

pub returns : goal.returns
returns c = short_is_cold_holds
