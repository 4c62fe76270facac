use Rattle.std.proofs.Common.{◌≡◌, drop}
use Rattle.tree_model.specs.Walk.{first_from}
use Rattle.tree_search.proofs.payload.first_place.Given as goal

abbrev pub invariant-loop-at : goal.invariant-loop-at
invariant-loop-at l = first_from l.key l.cells ≡ first_from l.key (drop l.at l.cells)
