use Rattle.std.proofs.Common.{◌≡◌, ◌+◌, length, take}
use Rattle.tree_model.specs.Whole.{first_page}
use Rattle.tree_model.specs.Need.{need_of_trees}
use Rattle.ref_pages.specs.AsPages.{pages_of}
use Rattle.ref_trees.specs.Forest.{HasForest}
use Rattle.ref_trees.proofs.need.need_of.Given as goal

-- what the trees of the roots so far may need
abbrev pub invariant-loop-root : goal.invariant-loop-root
invariant-loop-root l = HasForest (pages_of l.pages) (take l.root-index l.roots) (λ trees. l.count ≡ length (first_page l.roots) + need_of_trees (pages_of l.pages).usable trees)
