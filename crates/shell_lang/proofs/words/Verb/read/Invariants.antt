use Rattle.std.proofs.Common.{◌≢◌, take, All}
use Rattle.shell_lang.specs.CommandSteps.{verb_text}
use Rattle.shell_lang.proofs.words.Verb.read.Given as goal

-- none of the verbs so far
abbrev pub invariant-loop-verb : goal.invariant-loop-verb
invariant-loop-verb l = All (λ verb. l.word ≢ verb_text verb) (take l.verb-index l.verb-items)
