use Rattle.std.proofs.Common.{length}
use Rattle.ref_book.proofs.names.+is_taken_name.Given as goal

abbrev pub decreases-is_taken_name : goal.decreases-is_taken_name
decreases-is_taken_name l = length l.schema.now
