use Rattle.tree_removed.proofs.FitLemmas.{shrink_fits}
use Rattle.tree_removed.proofs.laws.shrink_fits.Goals as goal

pub returns : goal.returns
returns c = shrink_fits
