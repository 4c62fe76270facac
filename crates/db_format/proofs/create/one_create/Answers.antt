use Rattle.db_format.proofs.ColumnLemmas.{one_create}
use Rattle.db_format.proofs.create.one_create.Goals as goal

pub returns : goal.returns
returns c = one_create
