use Rattle.shell_laws.proofs.RowLemmas.{put_shows}
use Rattle.shell_laws.proofs.puts_show.Goals as goal

pub returns : goal.returns
returns c = put_shows
