use Rattle.shell_laws.proofs.FreeLemmas.{free_replies}
use Rattle.shell_laws.proofs.free_replies.Goals as goal

pub returns : goal.returns
returns c = free_replies
