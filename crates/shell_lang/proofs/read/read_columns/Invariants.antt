use Rattle.std.proofs.Common.{◌≡◌, ◌≤◌, ◌++◌, length}
use Rattle.shell_lang.specs.CommandSteps.{left}
use Rattle.shell_lang.proofs.read.read_columns.Given as goal

-- the columns so far are the words that were passed
abbrev pub invariant-loop-word : goal.invariant-loop-word
invariant-loop-word l = (left l.initial.words ≡ l.columns ++ left l.words) × (length l.columns ≤ 32)

abbrev pub decreases-loop-word : goal.decreases-loop-word
decreases-loop-word l = length (left l.words)
