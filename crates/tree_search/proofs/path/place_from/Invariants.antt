use Rattle.std.proofs.Common.{◌≡◌, ◌+◌, drop}
use Rattle.tree_search.specs.Search.{place_for}
use Rattle.tree_search.specs.Steps.{from_of}
use Rattle.tree_search.proofs.path.place_from.Given as goal

abbrev pub invariant-loop-at : goal.invariant-loop-at
invariant-loop-at l = place_for (from_of l.from) l.cells ≡ l.at + place_for (from_of l.from) (drop l.at l.cells)
