use Rattle.journal_format.proofs.PlaceLemmas.{one_played_holds}
use Rattle.journal_format.proofs.laws.one_played.Goals as goal

pub returns : goal.returns
returns c = one_played_holds
