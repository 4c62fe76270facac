use Rattle.std.proofs.Common.{take}
use Rattle.ref_schema.specs.Steps.{AreTables}
use Rattle.ref_schema.proofs.tables.tables_of.Given as goal

abbrev pub invariant-loop-record : goal.invariant-loop-record
invariant-loop-record l = AreTables l.size l.schema (take l.record-index l.schema) l.tables.items
