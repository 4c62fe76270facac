use Rattle.book_reads.proofs.TableLemmas.{tables_read}
use Rattle.book_reads.proofs.tables_read.Goals as goal

pub returns : goal.returns
returns c = tables_read c.one_create.ensures c.one_record.ensures c.rows_rise.ensures c.schema_read.ensures
