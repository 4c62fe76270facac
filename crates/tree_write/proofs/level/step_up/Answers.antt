use Rattle.std.proofs.Common.{◌+◌, List, length, ap, arith}
use Rattle.std.proofs.lemmas.Result.{err_from_is_err_and}
use Rattle.page_cut.specs.declared.parts.Sheet.{Sheet}
use Rattle.tree_write.proofs.TakesLemmas.{numbered-long, stops-memory}
use Rattle.tree_write.proofs.level.step_up.Goals as goal

pub plan_above-requires-clause-few : goal.plan_above-requires-clause-few
plan_above-requires-clause-few g c =
    omega (arith, ap (λ (l : List Sheet). length l) c.deref.ensures.value, numbered-long _ _ c.in_ok-front.ensures.placed.numbered, c.requires.few)

pub returns-in_err-next-clause-refused : goal.returns-in_err-next-clause-refused
returns-in_err-next-clause-refused g c =
    let p = err_from_is_err_and c.from_residual-in_err-next.result c.from_residual-in_err-next.ensures.1 in
    rw (p.1, p.2) (stops-memory (length c.args.sheets.front.items + 1) c.in_ok-front.ensures.placed.took (omega arith))

pub returns-in_err-put_behind-clause-refused : goal.returns-in_err-put_behind-clause-refused
returns-in_err-put_behind-clause-refused g c =
    let p = err_from_is_err_and c.from_residual-in_err-put_behind.result c.from_residual-in_err-put_behind.ensures.1 in
    rw (p.1, p.2) (stops-memory (length c.args.sheets.front.items + 1) c.in_ok-front.ensures.placed.took (omega arith))
