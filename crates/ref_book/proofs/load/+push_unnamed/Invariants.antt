use Rattle.ref_book.proofs.load.+push_unnamed.Given as goal

abbrev pub decreases-push_unnamed : goal.decreases-push_unnamed
decreases-push_unnamed l = l.count
