use Rattle.std.proofs.Common.{length}
use Rattle.ref_book.proofs.names.+is_table_name.Given as goal

abbrev pub decreases-is_table_name : goal.decreases-is_table_name
decreases-is_table_name l = length l.tables.now
