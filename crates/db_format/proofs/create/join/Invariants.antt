use Rattle.std.proofs.Common.{◌≡◌, ℕ, List, ◌∷◌, ◌++◌, take}
use Rattle.std.specs.List.{flat_map}
use Rattle.db_format.proofs.create.join.Given as goal

-- each name so far stands behind a comma
abbrev pub invariant-loop-name : goal.invariant-loop-name
invariant-loop-name l = l.text.items ≡ l.initial.text.items ++ flat_map (λ (y : List ℕ). 44 ∷ y) (take l.name-index l.rest)
