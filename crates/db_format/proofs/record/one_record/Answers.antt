use Rattle.db_format.proofs.RecordLemmas.{records_agree}
use Rattle.db_format.proofs.record.one_record.Goals as goal

pub returns : goal.returns
returns c = records_agree
