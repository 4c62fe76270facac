use Rattle.ref_pages.specs.FreeSteps.{AreLeaves}
use Rattle.ref_pages.proofs.freelist.leaves_of.Given as goal

-- the leaves so far
abbrev pub invariant-loop-at : goal.invariant-loop-at
invariant-loop-at l = AreLeaves l.bytes l.at l.leaves
