use Rattle.book_model.proofs.SizeLemmas.{record_has_size}
use Rattle.book_model.proofs.record_has_size.Goals as goal

pub returns : goal.returns
returns c = record_has_size
