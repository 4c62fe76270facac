use Rattle.std.proofs.Common.{◌+◌, ◌*◌, drop}
use Rattle.tree_model.specs.declared.ends.Next.{Next}
use Rattle.tree_model.specs.Walk.{Seeks, FirstOf}
use Rattle.ref_pages.specs.AsPages.{pages_of}
use Rattle.ref_trees.specs.Steps.{from_of}
use Rattle.ref_trees.proofs.walk.+seek.Given as goal

abbrev pub decreases-seek : goal.decreases-seek
decreases-seek l = 2 * l.left

abbrev pub decreases-first_of : goal.decreases-first_of
decreases-first_of l = 2 * l.left + 1

abbrev pub invariant-first_of-loop-child : goal.invariant-first_of-loop-child
invariant-first_of-loop-child l =
    (next : Next) → FirstOf (Seeks l.left (pages_of l.pages) l.key l.page) (from_of l.start) (drop l.child-index l.children) next
    → FirstOf (Seeks l.left (pages_of l.pages) l.key l.page) (from_of l.fn.from) l.children next
