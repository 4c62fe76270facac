use Rattle.page_list.proofs.GiveLemmas.{give_keeps_holds}
use Rattle.page_list.proofs.laws.give_keeps.Goals as goal

pub returns : goal.returns
returns c = give_keeps_holds
