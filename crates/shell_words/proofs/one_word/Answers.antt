use Rattle.shell_words.proofs.PlanLemmas.{one_word}
use Rattle.shell_words.proofs.one_word.Goals as goal

pub returns : goal.returns
returns c = one_word
