use Rattle.std.proofs.Common.{take}
use Rattle.ref_pages.specs.AsPages.{pages_of}
use Rattle.ref_trees.specs.ForestSteps.{AreWholeWith}
use Rattle.ref_trees.proofs.whole.whole_trees.Given as goal

-- the trees of the roots so far are whole
abbrev pub invariant-loop-root : goal.invariant-loop-root
invariant-loop-root l = AreWholeWith (pages_of l.pages) (take l.root-index l.roots) l.named.items
