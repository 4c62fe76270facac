use Rattle.tree_put.proofs.DoneLemmas.{put_keeps_whole}
use Rattle.tree_put.proofs.laws.put_keeps_whole.Goals as goal

pub returns : goal.returns
returns c = put_keeps_whole c.front_apart.ensures c.header_in_front.ensures c.one_page.ensures
