use Rattle.std.proofs.Common.{length}
use Rattle.db_format.proofs.RecordLemmas.{Reads}
use Rattle.db_format.proofs.record.read_values.Given as goal

abbrev pub invariant-loop-types_left : goal.invariant-loop-types_left
invariant-loop-types_left l = Reads l.types l.contents l.values.items l.types_left l.contents_left

abbrev pub decreases-loop-types_left : goal.decreases-loop-types_left
decreases-loop-types_left l = length l.types_left
