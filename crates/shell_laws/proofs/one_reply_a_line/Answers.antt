use Rattle.shell_laws.proofs.DraftLemmas.{one_reply_a_line}
use Rattle.shell_laws.proofs.one_reply_a_line.Goals as goal

pub returns : goal.returns
returns c = one_reply_a_line
