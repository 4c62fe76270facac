use Rattle.book_changes.proofs.DropLaw.{table_dropped}
use Rattle.book_changes.proofs.tables.table_dropped.Goals as goal

pub returns : goal.returns
returns c =
    table_dropped c.book_counts.ensures c.use_within_need.ensures c.pages_add_up.ensures c.root_removed.ensures c.one_tree.ensures c.whole_front.ensures c.front_kept.ensures
    c.rows_rise.ensures
