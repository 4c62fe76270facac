use Rattle.std.proofs.Common.{length}
use Rattle.ref_schema.proofs.records.+are_records_of.Given as goal

abbrev pub decreases-are_records_of : goal.decreases-are_records_of
decreases-are_records_of l = length l.rows.now
