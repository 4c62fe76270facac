use Rattle.ref_trees.proofs.row.accepts.Goals as goal

pub returns-in-Some : goal.returns-in-Some
returns-in-Some c = rw c.in-Some.is c.is_record.ensures
