use Rattle.std.proofs.Common.{length}
use Rattle.ref_book.proofs.need.+left_of_tables.Given as goal

abbrev pub decreases-left_of_tables : goal.decreases-left_of_tables
decreases-left_of_tables l = length l.tables.now
