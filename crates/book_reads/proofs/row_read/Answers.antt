use Rattle.book_reads.proofs.TableLemmas.{row_read}
use Rattle.book_reads.proofs.row_read.Goals as goal

pub returns : goal.returns
returns c = row_read c.one_reading.ensures c.one_create.ensures c.schema_read.ensures c.rows_rise.ensures c.path_finds.ensures
