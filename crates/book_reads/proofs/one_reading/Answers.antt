use Rattle.book_reads.proofs.ReadLemmas.{one_reading}
use Rattle.book_reads.proofs.one_reading.Goals as goal

pub returns : goal.returns
returns c = one_reading c.one_record.ensures c.one_create.ensures c.one_next.ensures c.one_path.ensures c.one_walk.ensures
