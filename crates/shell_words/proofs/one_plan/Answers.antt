use Rattle.shell_words.proofs.PlanLemmas.{one_plan}
use Rattle.shell_words.proofs.one_plan.Goals as goal

pub returns : goal.returns
returns c = one_plan
