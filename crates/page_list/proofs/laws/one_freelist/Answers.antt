use Rattle.page_list.proofs.FreelistLemmas.{one}
use Rattle.page_list.proofs.laws.one_freelist.Goals as goal

pub returns : goal.returns
returns c = one
