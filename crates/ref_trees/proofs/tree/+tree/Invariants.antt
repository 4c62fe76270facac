use Rattle.std.proofs.Common.{◌+◌, ◌*◌, ◌≤◌, length}
use Rattle.ref_pages.specs.AsPages.{pages_of}
use Rattle.ref_trees.proofs.HoldLemmas.{IsPartly}
use Rattle.ref_trees.proofs.tree.+tree.Given as goal

abbrev pub decreases-interior_at : goal.decreases-interior_at
decreases-interior_at l = 2 * l.levels + 1

abbrev pub decreases-tree_at : goal.decreases-tree_at
decreases-tree_at l = 2 * l.levels

-- the children from this place on are put together
pub record InLoop (within : Type 0) (partly : Type 0) : Type 0 where
  pub inside : within
  pub put : partly

abbrev pub invariant-interior_at-loop-at : goal.invariant-interior_at-loop-at
invariant-interior_at-loop-at l = InLoop (l.at ≤ length l.cells) (IsPartly (pages_of l.pages) l.levels l.page l.cells l.low l.high l.at l.found)

abbrev pub decreases-interior_at-loop-at : goal.decreases-interior_at-loop-at
decreases-interior_at-loop-at l = l.at
