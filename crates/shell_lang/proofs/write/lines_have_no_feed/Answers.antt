use Rattle.shell_lang.proofs.FeedLemmas.{lines_free}
use Rattle.shell_lang.proofs.write.lines_have_no_feed.Goals as goal

pub returns : goal.returns
returns c = lines_free
