use Rattle.page_list.proofs.FreelistLemmas.{freelist_stays_holds}
use Rattle.page_list.proofs.laws.freelist_stays.Goals as goal

pub returns : goal.returns
returns c = freelist_stays_holds
