use Rattle.book_changes.proofs.LargeLaws.{large_drop}
use Rattle.book_changes.proofs.tables.large_drop.Goals as goal

pub returns : goal.returns
returns c = large_drop c.book_counts.ensures c.rows_rise.ensures c.pages_add_up.ensures c.root_removed.ensures
