use Rattle.tree_page.proofs.FitLemmas.{fits_without}
use Rattle.tree_page.proofs.laws.fits_without.Goals as goal

pub returns : goal.returns
returns c = fits_without
