use Rattle.std.proofs.Common.{IsTrue}
use Rattle.std.specs.Int.{int_gap}
use Rattle.page_pool.specs.Space.{Steady, Stays}
use Rattle.table_rows.specs.Steps.{HasRows}
use Rattle.table_rows.proofs.walks.walk.Given as goal

abbrev pub invariant-loop-rows : goal.invariant-loop-rows
invariant-loop-rows g l =
    let state = g.S.PageSpace.state in
    let old = state l.initial.space in
    record {
      steady : Steady old (state l.space);
      stays : Stays old (state l.space);
      rows : IsTrue old.tells → HasRows l.columns old.pages l.root l.from l.to l.rows.items l.key;
    }

abbrev pub decreases-loop-rows : goal.decreases-loop-rows
decreases-loop-rows g l = int_gap l.key l.to
