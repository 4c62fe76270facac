use Rattle.std.proofs.Common.{◌≡◌, length}
use Rattle.db_format.specs.CreateSteps.{after_blanks}
use Rattle.db_format.proofs.create.after_blanks.Given as goal

-- the blanks that were passed do not count
abbrev pub invariant-loop-text : goal.invariant-loop-text
invariant-loop-text l = after_blanks l.text ≡ after_blanks l.fn.text

abbrev pub decreases-loop-text : goal.decreases-loop-text
decreases-loop-text l = length l.text
