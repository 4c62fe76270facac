use Rattle.shell_laws.proofs.DraftLemmas.{drafts_are_hidden}
use Rattle.shell_laws.proofs.drafts_are_hidden.Goals as goal

pub returns : goal.returns
returns c = drafts_are_hidden
