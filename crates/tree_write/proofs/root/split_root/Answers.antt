use Rattle.std.proofs.Common.{◌+◌, length, arith}
use Rattle.std.proofs.lemmas.Result.{err_from_is_err_and}
use Rattle.tree_write.proofs.TakesLemmas.{stops-memory}
use Rattle.tree_write.proofs.root.split_root.Goals as goal

pub returns-in_err-cells-clause-refused : goal.returns-in_err-cells-clause-refused
returns-in_err-cells-clause-refused g c =
    let p = err_from_is_err_and c.from_residual-in_err-cells.result c.from_residual-in_err-cells.ensures.1 in
    rw (p.1, p.2) (stops-memory (length c.args.sheets.front.items + 1 + 1) c.in_ok-pages.ensures.took.took (omega (arith, c.len-parts.ensures)))

pub returns-in_err-put_behind-clause-refused : goal.returns-in_err-put_behind-clause-refused
returns-in_err-put_behind-clause-refused g c =
    let p = err_from_is_err_and c.from_residual-in_err-put_behind.result c.from_residual-in_err-put_behind.ensures.1 in
    rw (p.1, p.2) (stops-memory (length c.args.sheets.front.items + 1 + 1) c.in_ok-pages.ensures.took.took (omega (arith, c.len-parts.ensures)))

pub returns-in_err-push-clause-refused : goal.returns-in_err-push-clause-refused
returns-in_err-push-clause-refused g c =
    let p = err_from_is_err_and c.from_residual-in_err-push.result c.from_residual-in_err-push.ensures.1 in
    rw (p.1, p.2) (stops-memory (length c.args.sheets.front.items + 1 + 1) c.in_ok-pages.ensures.took.took (omega (arith, c.len-parts.ensures)))
