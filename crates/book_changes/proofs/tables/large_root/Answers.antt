use Rattle.book_changes.proofs.LargeLaws.{large_root}
use Rattle.book_changes.proofs.tables.large_root.Goals as goal

pub returns : goal.returns
returns c = large_root c.book_counts.ensures c.rows_rise.ensures c.pages_add_up.ensures c.one_record.ensures
