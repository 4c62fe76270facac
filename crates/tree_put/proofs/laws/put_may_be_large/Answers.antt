use Rattle.tree_put.proofs.LargeLemmas.{put_may_be_large}
use Rattle.tree_put.proofs.laws.put_may_be_large.Goals as goal

pub returns : goal.returns
returns c = put_may_be_large c.front_apart.ensures c.one_page.ensures
