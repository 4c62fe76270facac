use Rattle.std.proofs.Common.{ℕ, List, Result, Ok, Err, rules}
use Rattle.db_format.specs.declared.fault.SpaceFault.{SpaceFault}
use Rattle.page_pool.specs.Space.{SpaceState, PutLeaves}
use Rattle.page_tests.proofs.spaces.FlawedPageSpace.put.Goals as goal

-- another count of faults
put_leaves : (old new : SpaceState) (before after number : ℕ) (content : List ℕ) (result : Result Unit SpaceFault) → PutLeaves old new number content result
    → PutLeaves (record old { faults = before }) (record new { faults = after }) number content result
put_leaves old new before after number content (Ok _) leaves = search rules
put_leaves old new before after number content (Err _) leaves = search rules

pub returns-clause-leaves : goal.returns-clause-leaves
returns-clause-leaves c = put_leaves _ _ _ _ _ _ c.put.result c.put.ensures.leaves
