use Rattle.page_list.proofs.ManyLemmas.{taken_good_holds}
use Rattle.page_list.proofs.laws.taken_good.Goals as goal

pub returns : goal.returns
returns c = taken_good_holds
