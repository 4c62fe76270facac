use Rattle.page_list.proofs.ChainLemmas.{one_chain_holds}
use Rattle.page_list.proofs.laws.one_chain.Goals as goal

pub returns : goal.returns
returns c = one_chain_holds
