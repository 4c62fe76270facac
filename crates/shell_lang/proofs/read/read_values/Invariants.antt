use Rattle.std.proofs.Common.{length}
use Rattle.shell_lang.specs.CommandSteps.{left}
use Rattle.shell_lang.proofs.ValueLemmas.{AreReadSoFar}
use Rattle.shell_lang.proofs.read.read_values.Given as goal

-- the values so far are given by the words that were passed
abbrev pub invariant-loop-word : goal.invariant-loop-word
invariant-loop-word l = AreReadSoFar (left l.initial.words) (left l.words) l.values

abbrev pub decreases-loop-word : goal.decreases-loop-word
decreases-loop-word l = length (left l.words)
