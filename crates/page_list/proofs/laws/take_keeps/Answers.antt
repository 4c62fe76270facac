use Rattle.page_list.proofs.TakeLemmas.{take_keeps_holds}
use Rattle.page_list.proofs.laws.take_keeps.Goals as goal

pub returns : goal.returns
returns c = take_keeps_holds
