use Rattle.tree_model.proofs.OnePathLemmas.{one_path}
use Rattle.tree_model.proofs.laws.one_path.Goals as goal

pub returns : goal.returns
returns c = one_path (record { page = c.one_page.ensures; chain = c.one_chain.ensures; end = c.one_end.ensures })
