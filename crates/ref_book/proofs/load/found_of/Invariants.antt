use Rattle.std.proofs.Common.{take}
use Rattle.std.specs.List.{AllZip}
use Rattle.db_format.specs.Schema.{IsTableOf}
use Rattle.ref_book.proofs.load.found_of.Given as goal

abbrev pub invariant-loop-record : goal.invariant-loop-record
invariant-loop-record l = AllZip (IsTableOf l.size l.records) (take l.record-index l.records) l.all.items
