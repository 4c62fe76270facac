use Rattle.journal_format.proofs.BackLemmas.{few_records_holds}
use Rattle.journal_format.proofs.laws.few_records.Goals as goal

pub returns : goal.returns
returns c = few_records_holds
