use Rattle.std.proofs.Common.{length, refl}
use Rattle.std.specs.Int.{w64}
use Rattle.std.proofs.lemmas.Int.{to_z-of_z}
use Rattle.tree_model.proofs.IntLemmas.{is_le, is_not_le}
use Rattle.tree_plan.proofs.LeafLemmas.{step, found, past_all}
use Rattle.tree_join.proofs.leaf.place.Goals as goal

pub loop-at-preserved : goal.loop-at-preserved
loop-at-preserved c =
    step _ _ c.loop-at.at c.args.cells.now c.index-cells-at.result c.loop-at-test.true c.loop-at.invariant c.index-cells-at.is
    (to_z-of_z w64 c.index-cells-at.result.rowid (search c)) (is_not_le _ _ c.if-cell-key.false)

pub returns-then-cell-key : goal.returns-then-cell-key
returns-then-cell-key c =
    found _ _ c.args.key c.loop-at.at c.args.cells.now c.index-cells-at.result c.loop-at-test.true c.loop-at.invariant c.index-cells-at.is
    (to_z-of_z w64 c.index-cells-at.result.rowid (search c)) (to_z-of_z w64 c.args.key c.ranges.key) (is_le _ _ c.if-cell-key.true)

pub returns : goal.returns
returns c =
    past_all _ c.args.key c.loop-at.at (length c.args.cells.now) c.args.cells.now refl c.loop-at-test.false c.loop-at.auto.at-end c.loop-at.invariant (to_z-of_z w64 c.args.key c.ranges.key)
