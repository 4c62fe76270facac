use Rattle.page_list.proofs.ManyLemmas.{gives_keep_holds}
use Rattle.page_list.proofs.laws.gives_keep.Goals as goal

pub returns : goal.returns
returns c = gives_keep_holds
