use Rattle.book_changes.proofs.NameLemmas.{tables_are_found}
use Rattle.book_changes.proofs.tables.tables_are_found.Goals as goal

pub returns : goal.returns
returns c = tables_are_found c.one_create.ensures
