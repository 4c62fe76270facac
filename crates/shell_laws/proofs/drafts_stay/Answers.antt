use Rattle.shell_laws.proofs.StepLemmas.{drafts_stay}
use Rattle.shell_laws.proofs.drafts_stay.Goals as goal

pub returns : goal.returns
returns c = drafts_stay
