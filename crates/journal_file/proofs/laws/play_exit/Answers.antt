use Rattle.journal_file.proofs.ExitLemmas.{play_exit_by}
use Rattle.journal_file.proofs.laws.play_exit.Goals as goal

pub returns : goal.returns
returns c = play_exit_by c.now_is_image.ensures c.settled_stays.ensures c.older_images.ensures
