use Rattle.page_list.proofs.ManyLemmas.{takes_keep_holds}
use Rattle.page_list.proofs.laws.takes_keep.Goals as goal

pub returns : goal.returns
returns c = takes_keep_holds
