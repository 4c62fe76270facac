use Rattle.tree_removed.proofs.DoneLemmas.{remove_keeps_whole}
use Rattle.tree_removed.proofs.laws.remove_keeps_whole.Goals as goal

pub returns : goal.returns
returns c = remove_keeps_whole c.front_apart.ensures c.header_in_front.ensures c.one_page.ensures c.page_fits.ensures
