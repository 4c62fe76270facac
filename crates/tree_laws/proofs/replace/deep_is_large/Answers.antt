use Rattle.tree_laws.proofs.DeepLemmas.{deep_is_large}
use Rattle.tree_laws.proofs.replace.deep_is_large.Goals as goal

pub returns : goal.returns
returns c = deep_is_large c.one_page.ensures
