use Rattle.shell_laws.proofs.DraftLemmas.{one_draft}
use Rattle.shell_laws.proofs.one_draft.Goals as goal

pub returns : goal.returns
returns c = one_draft
