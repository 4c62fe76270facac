use Rattle.std.proofs.Common.{◌≡◌, map, take}
use Rattle.tree_page.specs.Page.{leaf}
use Rattle.tree_page.specs.Steps.{cell_of}
use Rattle.tree_page.proofs.read.leaves.Given as goal

-- the cells so far are the first that were found
abbrev pub invariant-loop-one : goal.invariant-loop-one
invariant-loop-one l = map leaf l.cells ≡ map (cell_of l.bytes) (take l.one-index l.found)
