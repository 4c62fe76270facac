-- Items put in place of others.
use Rattle.std.specs.Prelude.{ℕ, ◌+◌, List, ◌++◌, length, take, drop}

-- a list with these items in place of those from an offset on
abbrev pub spliced : {X : Type 0} → List X → ℕ → List X → List X
spliced old off items = take off old ++ (items ++ drop (off + length items) old)
