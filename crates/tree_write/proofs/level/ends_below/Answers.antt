use Rattle.std.proofs.Common.{◌-◌, ◌≤◌, length, get_or, arith, pos}
use Rattle.std.specs.Int.{w64}
use Rattle.std.proofs.lemmas.Int.{to_z-of_z}
use Rattle.std.proofs.lemmas.List.{get_or_default}
use Rattle.tree_page.specs.declared.cell.InnerCell.{InnerCell}
use Rattle.tree_write.proofs.RiseLemmas.{ends-where, lt-is}
use Rattle.tree_write.proofs.level.ends_below.Goals as goal

pub returns-else-is_empty : goal.returns-else-is_empty
returns-else-is_empty c =
    let cells = c.args.cells.now in
    let some : 1 ≤ length cells = grind arith in
    let x : InnerCell = get_or cells (length cells - 1) (record { child = 0; rowid = pos 0 }) in
    let is = ends-where cells x c.args.key some (get_or_default cells (length cells - 1) (record { child = 0; rowid = pos 0 }) x (omega arith)) in
    lt-is _ _ x.rowid c.args.key (to_z-of_z w64 x.rowid (search c)) (to_z-of_z w64 c.args.key c.ranges.key) is
