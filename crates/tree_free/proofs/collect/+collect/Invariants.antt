use Rattle.std.proofs.Common.{◌+◌, ◌*◌, take}
use Rattle.page_pool.specs.Space.{Steady, Stays}
use Rattle.tree_free.specs.Steps.{ChildrenGone}
use Rattle.tree_free.proofs.collect.+collect.Given as goal

abbrev pub decreases-collect : goal.decreases-collect
decreases-collect g l = 2 * l.left

abbrev pub decreases-collect_children : goal.decreases-collect_children
decreases-collect_children g l = 2 * l.left + 1

abbrev pub invariant-collect_children-loop-cell : goal.invariant-collect_children-loop-cell
invariant-collect_children-loop-cell g l =
    let state = g.S.PageSpace.state in
    let old = state l.initial.space in
    record {
      steady : Steady old (state l.space);
      stays : Stays old (state l.space);
      gone : ChildrenGone old l.left l.page (take l.cell-index l.cells) l.fn.walk l.walk;
    }
