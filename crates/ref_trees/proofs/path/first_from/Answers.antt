use Rattle.std.proofs.Common.{sym, rules, SFits, w64}
use Rattle.std.proofs.lemmas.Int.{to_z-of_z}
use Rattle.ref_trees.proofs.SearchLemmas.{first_found}
use Rattle.ref_trees.proofs.path.first_from.Goals as goal

pub returns-then-key-cell : goal.returns-then-key-cell
returns-then-key-cell c =
    let key_fits = c.ranges.key in
    let rowid_fits : SFits w64 c.cell-item.result.rowid = search rules in
    let before = simp to_z-of_z at c.loop-cell.invariant in
    let reached = simp to_z-of_z at c.if-key-cell.true in
    sym (first_found c.args.key c.args.cells.now c.loop-cell.cell-index c.cell-item.result before c.loop-cell-test.true c.cell-item.is reached)
