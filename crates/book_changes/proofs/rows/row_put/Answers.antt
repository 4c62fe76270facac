use Rattle.book_changes.proofs.RowLaws.{row_put}
use Rattle.book_changes.proofs.rows.row_put.Goals as goal

pub returns : goal.returns
returns c = row_put c.book_counts.ensures c.use_within_need.ensures c.pages_add_up.ensures c.front_kept.ensures c.rows_rise.ensures
