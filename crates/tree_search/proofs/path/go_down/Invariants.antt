use Rattle.std.proofs.Common.{◌≡◌, IsTrue, length}
use Rattle.page_pool.specs.Space.{Steady, Stays}
use Rattle.tree_search.proofs.PathLemmas.{Comes, IsWay}
use Rattle.tree_search.proofs.path.go_down.Given as goal

abbrev pub invariant-loop-levels : goal.invariant-loop-levels
invariant-loop-levels g l =
    let state = g.S.PageSpace.state in
    let old = state l.initial.space in
    record {
      steady : Steady old (state l.space);
      stays : Stays old (state l.space);
      one_page : length l.buffer ≡ old.page_size;
      way : IsWay old.pages.size old.pages.usable l.left l.levels.items;
      comes : IsTrue old.tells → Comes old.pages l.root l.rowid l.left l.above l.number l.levels.items;
    }

abbrev pub decreases-loop-levels : goal.decreases-loop-levels
decreases-loop-levels g l = l.left
