use Rattle.std.proofs.Common.{◌≢◌, take, AllPairs}
use Rattle.db_format.proofs.create.are_different.Given as goal

-- those before are all different
abbrev pub invariant-loop-at : goal.invariant-loop-at
invariant-loop-at l = AllPairs (λ a b. a ≢ b) (take l.at l.names)
