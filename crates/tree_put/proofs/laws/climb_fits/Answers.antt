use Rattle.tree_put.proofs.FitLemmas.{climb_fits}
use Rattle.tree_put.proofs.laws.climb_fits.Goals as goal

pub returns : goal.returns
returns c = climb_fits
