use Rattle.std.proofs.Common.{arith}
use Rattle.std.proofs.lemmas.Grind.{common_steps}
use Rattle.db_format.proofs.ColumnLemmas.{written_spells}
use Rattle.db_format.proofs.create.write_create.Goals as goal

pub returns-clause-reads : goal.returns-clause-reads
returns-clause-reads c = written_spells c.from_vec.result c.args.create.now c.requires (grind (arith, common_steps))
