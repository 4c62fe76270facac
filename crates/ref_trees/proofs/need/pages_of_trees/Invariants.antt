use Rattle.std.proofs.Common.{◌≡◌, take}
use Rattle.std.specs.List.{flat_map}
use Rattle.tree_model.specs.Tree.{pages_of as tree_pages}
use Rattle.ref_pages.specs.AsPages.{pages_of}
use Rattle.ref_trees.specs.Forest.{HasForest}
use Rattle.ref_trees.proofs.need.pages_of_trees.Given as goal

-- the pages of the trees of the roots so far
abbrev pub invariant-loop-root : goal.invariant-loop-root
invariant-loop-root l = HasForest (pages_of l.pages) (take l.root-index l.roots) (λ trees. l.named.items ≡ flat_map tree_pages trees)
