use Rattle.std.proofs.Common.{◌≡◌, ◌++◌, drop}
use Rattle.vfs_model.specs.Sums.{without_sums}
use Rattle.ref_stack.proofs.sums.without_sums.Given as goal

-- what was made, and what the rest will give
abbrev pub invariant-loop-place : goal.invariant-loop-place
invariant-loop-place l = l.shown ++ without_sums l.page l.place (drop l.place l.bytes) ≡ without_sums l.page 0 l.bytes
