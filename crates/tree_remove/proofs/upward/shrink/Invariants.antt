use Rattle.std.proofs.Common.{length}
use Rattle.std.specs.List.{AllByRecursion}
use Rattle.page_list.specs.Pages.{HasPage}
use Rattle.page_pool.specs.Space.{Steady, Stays}
use Rattle.tree_search.specs.Search.{IsStep}
use Rattle.tree_remove.specs.Shrink.{IsLeftPlan}
use Rattle.tree_remove.proofs.ShrinkLemmas.{ShrinksAlong, ClimbsFew}
use Rattle.tree_remove.proofs.upward.shrink.Given as goal

abbrev pub invariant-loop-child : goal.invariant-loop-child
invariant-loop-child g l =
    let state = g.S.PageSpace.state in
    let old = state l.initial.space in
    record {
      steady : Steady old (state l.space);
      stays : Stays old (state l.space);
      each : AllByRecursion (IsStep old.pages.size old.pages.usable) l.levels.items;
      there : HasPage old.pages l.number;
      planned : IsLeftPlan l.number old.pages.usable l.left;
      few : ClimbsFew l.initial.levels.items l.levels.items l.left;
      along : ShrinksAlong old l.initial.number l.initial.left l.initial.levels.items l.levels.items l.number l.left l.shrunk;
    }

abbrev pub decreases-loop-child : goal.decreases-loop-child
decreases-loop-child g l = length l.levels.items
