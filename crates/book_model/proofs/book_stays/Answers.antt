use Rattle.book_model.proofs.StayLemmas.{book_stays}
use Rattle.book_model.proofs.book_stays.Goals as goal

pub returns : goal.returns
returns c = book_stays c.whole_stays.ensures
