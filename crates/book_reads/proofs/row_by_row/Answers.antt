use Rattle.book_reads.proofs.ReadLemmas.{row_by_row}
use Rattle.book_reads.proofs.row_by_row.Goals as goal

pub returns : goal.returns
returns c = row_by_row c.one_record.ensures c.one_next.ensures
