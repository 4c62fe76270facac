use Rattle.std.proofs.Common.{◌≡◌, ℕ, List, ◌∷◌, ◌++◌, take}
use Rattle.std.specs.List.{flat_map}
use Rattle.shell_lang.proofs.write.put_names.Given as goal

-- each name so far stands behind a blank
abbrev pub invariant-loop-name : goal.invariant-loop-name
invariant-loop-name l = l.out ≡ l.initial.out ++ flat_map (λ (name : List ℕ). 32 ∷ name) (take l.name-index l.names)
