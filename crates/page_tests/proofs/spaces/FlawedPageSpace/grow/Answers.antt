use Rattle.std.proofs.Common.{ℕ, Result, Ok, Err, rules}
use Rattle.db_format.specs.declared.fault.SpaceFault.{SpaceFault}
use Rattle.page_pool.specs.Space.{SpaceState, GrowLeaves}
use Rattle.page_tests.proofs.spaces.FlawedPageSpace.grow.Goals as goal

-- another count of faults
grow_leaves : (old new : SpaceState) (before after : ℕ) (result : Result ℕ SpaceFault) → GrowLeaves old new result
    → GrowLeaves (record old { faults = before }) (record new { faults = after }) result
grow_leaves old new before after (Ok _) leaves = search rules
grow_leaves old new before after (Err _) leaves = search rules

pub returns-clause-leaves : goal.returns-clause-leaves
returns-clause-leaves c = grow_leaves _ _ _ _ c.grow.result c.grow.ensures.leaves
