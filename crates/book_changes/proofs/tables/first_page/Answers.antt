use Rattle.book_changes.proofs.FirstLemmas.{first_page}
use Rattle.book_changes.proofs.tables.first_page.Goals as goal

pub returns : goal.returns
returns c = first_page
