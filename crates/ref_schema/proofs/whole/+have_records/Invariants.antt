use Rattle.std.proofs.Common.{length}
use Rattle.ref_schema.proofs.whole.+have_records.Given as goal

abbrev pub decreases-have_records : goal.decreases-have_records
decreases-have_records l = length l.tables.now
