use Rattle.std.proofs.Common.{take}
use Rattle.ref_schema.specs.Steps.{AreRecords}
use Rattle.ref_schema.proofs.records.records_of.Given as goal

abbrev pub invariant-loop-row : goal.invariant-loop-row
invariant-loop-row l = AreRecords (take l.row-index l.rows) l.records.items
