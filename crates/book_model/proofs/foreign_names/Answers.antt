use Rattle.book_model.proofs.ForeignLemmas.{foreign_names}
use Rattle.book_model.proofs.foreign_names.Goals as goal

pub returns : goal.returns
returns c = foreign_names
