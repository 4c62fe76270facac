use Rattle.page_list.proofs.ChainEndLemmas.{one_end_holds}
use Rattle.page_list.proofs.laws.one_end.Goals as goal

pub returns : goal.returns
returns c = one_end_holds
