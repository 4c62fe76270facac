use Rattle.tree_model.proofs.OneWalkLemmas.{one_walk}
use Rattle.tree_model.proofs.laws.one_walk.Goals as goal

pub returns : goal.returns
returns c = one_walk (record { page = c.one_page.ensures; chain = c.one_chain.ensures; end = c.one_end.ensures })
