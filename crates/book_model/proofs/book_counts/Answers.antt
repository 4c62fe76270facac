use Rattle.book_model.proofs.CountLemmas.{book_counts}
use Rattle.book_model.proofs.book_counts.Goals as goal

pub returns : goal.returns
returns c = book_counts c.rows_rise.ensures c.pages_add_up.ensures
