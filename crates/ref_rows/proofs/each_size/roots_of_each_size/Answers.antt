use Rattle.ref_rows.proofs.RootLemmas.{roots_of_each_size}
use Rattle.ref_rows.proofs.each_size.roots_of_each_size.Goals as goal

pub returns : goal.returns
returns c = roots_of_each_size
