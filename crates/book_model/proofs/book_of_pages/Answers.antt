use Rattle.book_model.proofs.OneLemmas.{book_of_pages}
use Rattle.book_model.proofs.book_of_pages.Goals as goal

pub returns : goal.returns
returns c = book_of_pages c.one_record.ensures c.one_witness.ensures
