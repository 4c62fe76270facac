use Rattle.tree_model.proofs.OneWalkLemmas.{one_next}
use Rattle.tree_model.proofs.laws.one_next.Goals as goal

pub returns : goal.returns
returns c = one_next (record { page = c.one_page.ensures; chain = c.one_chain.ensures; end = c.one_end.ensures })
