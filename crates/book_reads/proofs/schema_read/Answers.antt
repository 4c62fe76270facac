use Rattle.book_reads.proofs.SchemaLemmas.{schema_read}
use Rattle.book_reads.proofs.schema_read.Goals as goal

pub returns : goal.returns
returns c = schema_read c.one_reading.ensures c.one_record.ensures c.rows_rise.ensures c.walk_gives.ensures
