use Rattle.std.proofs.Common.{◌+◌, ◌*◌, IsTrue, drop}
use Rattle.page_pool.specs.Space.{Steady, Stays}
use Rattle.tree_model.specs.Walk.{all_children, children_from}
use Rattle.tree_search.specs.Steps.{from_of, GoesOn, AreEmpty}
use Rattle.tree_search.proofs.NextLemmas.{Passes}
use Rattle.tree_search.proofs.next.+seek.Given as goal

abbrev pub decreases-first_of : goal.decreases-first_of
decreases-first_of g l = 3 * l.left + 2

abbrev pub decreases-seek : goal.decreases-seek
decreases-seek g l = 3 * l.left + 1

abbrev pub decreases-seek_page : goal.decreases-seek_page
decreases-seek_page g l = 3 * l.left

abbrev pub invariant-first_of-loop-cell : goal.invariant-first_of-loop-cell
invariant-first_of-loop-cell g l =
    let state = g.S.PageSpace.state in
    let old = state l.initial.space in
    record {
      steady : Steady old (state l.space);
      stays : Stays old (state l.space);
      goes : GoesOn l.initial.search l.search;
      empty : IsTrue old.tells → AreEmpty old.pages l.initial.search.key l.search.empty;
      passed : IsTrue old.tells
          → Passes l.left old.pages l.initial.search.key l.page (from_of l.fn.from) (children_from (from_of l.fn.from) l.cells l.right) (from_of l.start)
          (all_children (drop l.cell-index l.cell-items) l.right);
    }
