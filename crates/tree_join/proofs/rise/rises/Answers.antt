use Rattle.std.proofs.Common.{sym, ◌∙◌}
use Rattle.std.specs.Int.{w64}
use Rattle.std.proofs.lemmas.Bool.{false≢true}
use Rattle.std.proofs.lemmas.Int.{to_z-of_z}
use Rattle.tree_join.proofs.RiseLemmas.{goes_on, ends_here, past_all}
use Rattle.tree_join.proofs.rise.rises.Goals as goal

pub loop-cell-init : goal.loop-cell-init
loop-cell-init c = (λ a. a, λ a. a)

pub returns-then-not-is_behind : goal.returns-then-not-is_behind
returns-then-not-is_behind c =
    ends_here _ c.loop-cell.last c.loop-cell.cell-index c.args.cells.now _ _ c.loop-cell-test.true c.loop-cell.invariant (to_z-of_z w64 _ (search c))
    (λ b. false≢true (sym c.if-not-is_behind.true ∙ c.is_behind.ensures.1 b))

pub loop-cell-preserved : goal.loop-cell-preserved
loop-cell-preserved c =
    goes_on _ c.loop-cell.last c.loop-cell.cell-index c.args.cells.now _ _ c.loop-cell-test.true c.loop-cell.invariant (to_z-of_z w64 _ (search c))
    (c.is_behind.ensures.0 c.if-not-is_behind.false)

pub returns : goal.returns
returns c = past_all _ c.loop-cell.last c.loop-cell.cell-index c.args.cells.now c.loop-cell-test.false c.loop-cell.invariant
