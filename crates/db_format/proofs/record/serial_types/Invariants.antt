use Rattle.std.proofs.Common.{take}
use Rattle.db_format.specs.Writing.{AreTypes}
use Rattle.db_format.proofs.record.serial_types.Given as goal

abbrev pub invariant-loop-value : goal.invariant-loop-value
invariant-loop-value l = AreTypes l.types.items (take l.value-index l.values)
