use Rattle.shell_model.proofs.RuleLemmas.{by_rule}
use Rattle.shell_model.proofs.refused_by_rule.Goals as goal

pub returns : goal.returns
returns c = by_rule
