use Rattle.shell_top.proofs.RowsLemmas.{rows_none}
use Rattle.shell_top.proofs.rows.Rows.new.Goals as goal

pub returns : goal.returns
returns c = rows_none c.new.result.entries c.new.ensures.empty
