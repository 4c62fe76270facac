use Rattle.book_changes.proofs.MakeLaw.{table_made}
use Rattle.book_changes.proofs.tables.table_made.Goals as goal

pub returns : goal.returns
returns c =
    table_made c.book_counts.ensures c.use_within_need.ensures c.pages_add_up.ensures c.root_removed.ensures c.one_tree.ensures c.whole_front.ensures c.front_kept.ensures
    c.rows_rise.ensures c.one_record.ensures
