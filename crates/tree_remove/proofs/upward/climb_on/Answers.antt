use Rattle.std.proofs.Common.{◌≡◌, ℕ, ◌+◌, ◌*◌, ◌≤◌, [], length, refl, sym, ap, subst, arith}
use Rattle.std.proofs.lemmas.List.{nil_from_length}
use Rattle.std.proofs.lemmas.Result.{err_from_is_err_and, IfErr-weaker}
use Rattle.payload_chain.proofs.StateLemmas.{steady-same, stays-same}
use Rattle.tree_write.proofs.TakesLemmas.{stops-memory, stops-on}
use Rattle.tree_write.specs.Climb.{spare}
use Rattle.tree_remove.specs.Steps.{most_taken}
use Rattle.tree_remove.proofs.ShrinkLemmas.{took_zero, climbs-none, taken_most, taken_within}
use Rattle.tree_remove.proofs.upward.climb_on.Goals as goal

pub returns-in_err-stay_on-clause-refused : goal.returns-in_err-stay_on-clause-refused
returns-in_err-stay_on-clause-refused g c =
    let p = err_from_is_err_and c.from_residual.result c.from_residual.ensures.1 in
    rw (p.1, p.2) (stops-memory (most_taken (length c.args.sheets.front.items) (length c.args.levels.items) + 2 * 1) (took_zero (steady-same c.size-pages.ensures.sizes) stays-same) (omega arith))

pub returns-then-is_empty-clause-climbed : goal.returns-then-is_empty-clause-climbed
returns-then-is_empty-clause-climbed g c =
    let e = c.in_ok-stay_on.ensures in
    let none : c.args.sheets.front.items ≡ [] = nil_from_length c.args.sheets.front.items (grind (arith, c.is_empty.ensures, c.if-is_empty.true)) in
    climbs-none (g.S.PageSpace.state c.args.space.now) c.args.number c.args.sheets c.args.levels.items c.args.shrunk c.in_ok-stay_on.field-0 c.size-pages.ensures.sizes none (c.requires.fits none) e.out e.lost e.over

pub returns-in_err-append-clause-refused : goal.returns-in_err-append-clause-refused
returns-in_err-append-clause-refused g c =
    let p = err_from_is_err_and c.from_residual-in_err-append.result c.from_residual-in_err-append.ensures.1 in
    let climbed = c.in_ok-more.ensures.climbed in
    let most = taken_most (length c.args.sheets.front.items) (length c.args.levels.items) (grind (arith, c.is_empty.ensures, c.if-is_empty.false)) in
    rw (p.1, p.2) (stops-memory (most_taken (length c.args.sheets.front.items) (length c.args.levels.items) + 2 * 1) climbed.took (omega (arith, climbed.few, most)))
