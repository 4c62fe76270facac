use Rattle.std.proofs.Common.{◌≡◌, ◌<◌, List, length, slice_index_or, pos, ap, subst, arith, ◌∙◌}
use Rattle.tree_page.specs.declared.cell.InnerCell.{InnerCell}
use Rattle.tree_join.proofs.LevelLemmas.{child_before, child_last}
use Rattle.tree_join.proofs.level.child_at.Goals as goal

pub returns-then-at-cells : goal.returns-then-at-cells
returns-then-at-cells c =
    let d : InnerCell = record { child = 0; rowid = pos 0 } in
    ap (λ (l : List InnerCell). (slice_index_or l c.args.at d).child) c.as_slice-cells.ensures
    ∙ child_before c.args.level.now.cells c.args.level.now.right c.args.at d
    (let P : List InnerCell → Type 0 = λ l. c.args.at < length l in subst P c.as_slice-cells.ensures c.if-at-cells.true)

pub returns : goal.returns
returns c =
    let long : length c.as_slice-cells.result.now ≡ length c.args.level.now.cells = ap (λ (l : List InnerCell). length l) c.as_slice-cells.ensures in
    child_last c.args.level.now.cells c.args.level.now.right c.args.at (omega (arith, c.requires, c.if-at-cells.false, long))
