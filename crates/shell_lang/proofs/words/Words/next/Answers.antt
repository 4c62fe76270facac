use Rattle.std.proofs.Common.{ap, ◌∙◌}
use Rattle.shell_lang.specs.CommandSteps.{words_of}
use Rattle.shell_lang.proofs.ReadLemmas.{next_some, next_none}
use Rattle.shell_lang.proofs.words.Words.next.Goals as goal

pub returns-in-Some : goal.returns-in-Some
returns-in-Some c =
    ap words_of c.in_ok-text.was ∙ next_some c.in_ok-text.text.now c.in-Some.word.now c.in-Some.rest.now c.in-Some.ensures.0 c.in-Some.ensures.1

pub returns-in-None : goal.returns-in-None
returns-in-None c = ap words_of c.in_ok-text.was ∙ next_none c.in_ok-text.text.now c.in-None.ensures
