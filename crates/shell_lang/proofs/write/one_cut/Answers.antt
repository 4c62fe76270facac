use Rattle.shell_lang.proofs.FeedLemmas.{one_cut}
use Rattle.shell_lang.proofs.write.one_cut.Goals as goal

pub returns : goal.returns
returns c = one_cut
