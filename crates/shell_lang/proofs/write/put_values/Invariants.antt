use Rattle.std.proofs.Common.{◌≡◌, ◌∷◌, ◌++◌, take}
use Rattle.std.specs.List.{flat_map}
use Rattle.shell_lang.specs.Reply.{value_text}
use Rattle.shell_lang.proofs.write.put_values.Given as goal

-- each value so far stands behind a blank
abbrev pub invariant-loop-value : goal.invariant-loop-value
invariant-loop-value l = l.out ≡ l.initial.out ++ flat_map (λ value. 32 ∷ value_text value) (take l.value-index l.values)
