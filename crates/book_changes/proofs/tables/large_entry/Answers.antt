use Rattle.book_changes.proofs.LargeLaws.{large_entry}
use Rattle.book_changes.proofs.tables.large_entry.Goals as goal

pub returns : goal.returns
returns c = large_entry c.book_counts.ensures c.rows_rise.ensures c.pages_add_up.ensures c.root_removed.ensures c.front_kept.ensures c.one_record.ensures
