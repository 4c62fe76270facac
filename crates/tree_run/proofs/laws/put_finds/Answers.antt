use Rattle.tree_run.proofs.PutLemmas.{put_finds}
use Rattle.tree_run.proofs.laws.put_finds.Goals as goal

pub returns : goal.returns
returns c = put_finds
