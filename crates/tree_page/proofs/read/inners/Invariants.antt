use Rattle.std.proofs.Common.{◌≡◌, ℕ, List, map, take}
use Rattle.tree_page.specs.Page.{inner}
use Rattle.tree_page.specs.Steps.{cell_of}
use Rattle.tree_page.proofs.read.inners.Given as goal

-- the cells so far are the first that were found
abbrev pub invariant-loop-one : goal.invariant-loop-one
invariant-loop-one l = (bytes : List ℕ) → map inner l.cells ≡ map (cell_of bytes) (take l.one-index l.found)
