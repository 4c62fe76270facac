use Rattle.journal_format.proofs.PlaceLemmas.{same_laid_holds}
use Rattle.journal_format.proofs.laws.same_laid.Goals as goal

pub returns : goal.returns
returns c = same_laid_holds
