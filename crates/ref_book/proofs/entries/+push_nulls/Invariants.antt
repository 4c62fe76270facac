use Rattle.ref_book.proofs.entries.+push_nulls.Given as goal

abbrev pub decreases-push_nulls : goal.decreases-push_nulls
decreases-push_nulls l = l.count
