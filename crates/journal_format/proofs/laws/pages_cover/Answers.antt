use Rattle.journal_format.proofs.PlaceLemmas.{pages_cover_holds}
use Rattle.journal_format.proofs.laws.pages_cover.Goals as goal

pub returns : goal.returns
returns c = pages_cover_holds
