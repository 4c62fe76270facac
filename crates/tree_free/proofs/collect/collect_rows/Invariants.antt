use Rattle.std.proofs.Common.{take}
use Rattle.page_pool.specs.Space.{Steady, Stays}
use Rattle.tree_free.specs.Steps.{LeafGone}
use Rattle.tree_free.proofs.collect.collect_rows.Given as goal

abbrev pub invariant-loop-cell : goal.invariant-loop-cell
invariant-loop-cell g l =
    let state = g.S.PageSpace.state in
    let old = state l.initial.space in
    record {
      steady : Steady old (state l.space);
      stays : Stays old (state l.space);
      gone : LeafGone old l.page (take l.cell-index l.cell-items) l.fn.walk l.walk;
    }
