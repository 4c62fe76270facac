use Rattle.book_changes.proofs.LargeLaws.{large_put}
use Rattle.book_changes.proofs.rows.large_put.Goals as goal

pub returns : goal.returns
returns c = large_put c.book_counts.ensures c.rows_rise.ensures
