use Rattle.std.proofs.Common.{inr}
use Rattle.std.proofs.lemmas.Result.{err_from_is_err_and}
use Rattle.rowid_tree.proofs.RootLemmas.{stops_at_root}
use Rattle.rowid_tree.proofs.root.take_root.Goals as goal

pub returns-in_err-write_empty-clause-refused : goal.returns-in_err-write_empty-clause-refused
returns-in_err-write_empty-clause-refused g c =
    let p = err_from_is_err_and c.from_residual-in_err-write_empty.result c.from_residual-in_err-write_empty.ensures.1 in
    rw (p.1, p.2)
    (inr (stops_at_root c.in_ok-number.number c.in_err-write_empty.field-0.0 c.in_ok-number.ensures.steady c.in_err-write_empty.ensures.steady c.in_ok-number.ensures.taken
    c.in_err-write_empty.ensures.refused))
