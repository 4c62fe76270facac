use Rattle.std.proofs.Common.{◌≡◌, ℕ, ◌<◌, length, get_or}
use Rattle.ref_trees.specs.ForestSteps.{without_size}
use Rattle.ref_trees.proofs.header.first_of.Given as goal

pub record InFirst (sized each : Type 0) : Type 0 where
  pub hundred : sized
  pub so_far : each

-- the bytes so far
abbrev pub invariant-loop-at : goal.invariant-loop-at
invariant-loop-at l = InFirst (length l.first ≡ 100) ((k : ℕ) → k < l.at → get_or l.first k 0 ≡ get_or (without_size l.bytes) k 0)
