use Rattle.std.proofs.Common.{IsTrue}
use Rattle.std.specs.Int.{int_gap}
use Rattle.page_pool.specs.Space.{Steady, Stays}
use Rattle.tree_model.specs.Whole.{greatest}
use Rattle.table_rows.proofs.CountLemmas.{HasCounted}
use Rattle.table_rows.proofs.walks.count_rows.Given as goal

abbrev pub invariant-loop-rowid : goal.invariant-loop-rowid
invariant-loop-rowid g l =
    let state = g.S.PageSpace.state in
    let old = state l.initial.space in
    record {
      steady : Steady old (state l.space);
      stays : Stays old (state l.space);
      counted : IsTrue old.tells → HasCounted l.columns old.pages l.root l.count l.key;
    }

abbrev pub decreases-loop-rowid : goal.decreases-loop-rowid
decreases-loop-rowid g l = int_gap l.key greatest
