use Rattle.page_list.proofs.FreelistLemmas.{not_damaged_holds}
use Rattle.page_list.proofs.laws.not_damaged.Goals as goal

pub returns : goal.returns
returns c = not_damaged_holds
