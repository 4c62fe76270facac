use Rattle.book_changes.proofs.LargeLaws.{large_removal}
use Rattle.book_changes.proofs.rows.large_removal.Goals as goal

pub returns : goal.returns
returns c = large_removal c.book_counts.ensures c.rows_rise.ensures
