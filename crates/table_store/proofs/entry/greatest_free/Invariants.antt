use Rattle.std.proofs.Common.{◌≡◌, ◌≤◌, pos, ◌≤ℤ◌, length, reverse}
use Rattle.tree_model.specs.Whole.{greatest}
use Rattle.book_model.specs.Book.{free_below}
use Rattle.table_store.proofs.entry.greatest_free.Given as goal

-- the rowids behind these are the greatest that there can be, and the next is no less than there are of these
abbrev pub invariant-loop-left : goal.invariant-loop-left
invariant-loop-left l = record {
  few : length l.left ≤ length l.rowids;
  same : free_below greatest (reverse l.rowids) ≡ free_below l.free (reverse l.left);
  room : pos (length l.left) ≤ℤ l.free;
}

abbrev pub decreases-loop-left : goal.decreases-loop-left
decreases-loop-left l = length l.left
