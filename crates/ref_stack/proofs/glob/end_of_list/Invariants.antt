use Rattle.ref_stack.specs.Brackets.{ReadsTo}
use Rattle.ref_stack.proofs.glob.end_of_list.Given as goal

-- a list is read up to the place
abbrev pub invariant-loop-place : goal.invariant-loop-place
invariant-loop-place l = ReadsTo l.pattern l.place
