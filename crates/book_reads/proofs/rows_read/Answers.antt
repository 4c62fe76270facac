use Rattle.book_reads.proofs.TableLemmas.{rows_read}
use Rattle.book_reads.proofs.rows_read.Goals as goal

pub returns : goal.returns
returns c = rows_read c.one_reading.ensures c.row_by_row.ensures c.one_create.ensures c.schema_read.ensures c.rows_rise.ensures c.walk_gives.ensures
