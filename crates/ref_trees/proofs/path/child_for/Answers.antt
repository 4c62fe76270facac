use Rattle.std.proofs.Common.{sym, rules, SFits, w64, get_or, pos}
use Rattle.std.proofs.lemmas.Int.{to_z-of_z}
use Rattle.tree_page.specs.declared.cell.InnerCell.{InnerCell}
use Rattle.ref_trees.proofs.SearchLemmas.{child_found}
use Rattle.ref_trees.proofs.path.child_for.Goals as goal

pub returns-then-key-inner : goal.returns-then-key-inner
returns-then-key-inner c =
    let none : InnerCell = record { child = 0; rowid = pos 0 } in
    let key_fits = c.ranges.key in
    let rowid_fits : SFits w64 (get_or c.args.cells.now c.loop-inner.inner-index none).rowid = search rules in
    let before = simp to_z-of_z at c.loop-inner.invariant in
    let reached = simp to_z-of_z at c.if-key-inner.true in
    sym (child_found c.args.key c.args.cells.now c.args.right c.loop-inner.inner-index none before c.loop-inner-test.true reached)
