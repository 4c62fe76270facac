use Rattle.std.proofs.Common.{length}
use Rattle.ref_book.proofs.names.+is_foreign_name.Given as goal

abbrev pub decreases-is_foreign_name : goal.decreases-is_foreign_name
decreases-is_foreign_name l = length l.foreign.now
