use Rattle.tree_page.proofs.RoomLemmas.{page_fits}
use Rattle.tree_page.proofs.laws.page_fits.Goals as goal

pub returns : goal.returns
returns c = page_fits
