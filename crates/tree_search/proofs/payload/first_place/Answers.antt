use Rattle.std.proofs.Common.{sym, ◌∙◌, rules, SFits, w64, arith, length}
use Rattle.std.proofs.lemmas.Int.{to_z-of_z}
use Rattle.std.proofs.lemmas.Option.{slice_get_read, slice_get_past}
use Rattle.tree_search.proofs.CellLemmas.{first_found, none_left}
use Rattle.tree_search.proofs.payload.first_place.Goals as goal

pub returns-then-key-cell-clause-is : goal.returns-then-key-cell-clause-is
returns-then-key-cell-clause-is c =
    let key_fits = c.ranges.key in
    let rowid_fits : SFits w64 c.index-cells-at.result.rowid = search rules in
    let before = simp to_z-of_z at c.loop-at.invariant in
    let reached = simp to_z-of_z at c.if-key-cell.true in
    let cells = c.args.cells.now in
    slice_get_read cells (length cells) c.loop-at.at c.index-cells-at.result (omega arith) c.loop-at-test.true c.index-cells-at.is
    ∙ sym (first_found c.args.key cells c.loop-at.at c.index-cells-at.result before c.loop-at-test.true c.index-cells-at.is reached)

pub returns-clause-is : goal.returns-clause-is
returns-clause-is c =
    let key_fits = c.ranges.key in
    let before = simp to_z-of_z at c.loop-at.invariant in
    let cells = c.args.cells.now in
    slice_get_past cells (length cells) (omega arith) ∙ sym (none_left c.args.key cells c.loop-at.at before (omega arith))
