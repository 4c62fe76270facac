use Rattle.std.proofs.Common.{◌≡◌, ◌≤◌, List, length, ap, arith}
use Rattle.tree_page.specs.declared.cell.InnerCell.{InnerCell}
use Rattle.tree_join.proofs.LevelLemmas.{left_out, without_fits}
use Rattle.tree_join.proofs.level.leave_out.Goals as goal

pub returns : goal.returns
returns c = λ usable fits.
    let page = c.in-Some.field-0 in
    let long : length c.as_slice.result.now ≡ length page.cells = ap (λ (l : List InnerCell). length l) c.as_slice.ensures in
    let seen : 1 ≤ length c.as_slice.result.now = grind arith in
    let some : 1 ≤ length page.cells = omega (arith, long, seen) in
    left_out usable c.args.level page c.whole.result c.in-Some.ensures.is some
    (without_fits c.fits_without.ensures c.args.level.cells c.args.level.right c.args.level.at page c.args.level.number usable c.in-Some.ensures.is fits) c.whole.ensures
