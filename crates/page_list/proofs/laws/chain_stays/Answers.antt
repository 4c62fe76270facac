use Rattle.page_list.proofs.ChainLemmas.{chain_stays_holds}
use Rattle.page_list.proofs.laws.chain_stays.Goals as goal

pub returns : goal.returns
returns c = chain_stays_holds
