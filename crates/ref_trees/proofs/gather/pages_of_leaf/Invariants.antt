use Rattle.std.proofs.Common.{◌≡◌, ◌∷◌, take}
use Rattle.std.specs.List.{flat_map}
use Rattle.ref_trees.proofs.gather.pages_of_leaf.Given as goal

-- the page, and the chains so far
abbrev pub invariant-loop-row : goal.invariant-loop-row
invariant-loop-row l = l.pages.items ≡ l.page ∷ flat_map (λ row. row.chain) (take l.row-index l.rows)
