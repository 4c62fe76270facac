use Rattle.std.proofs.Common.{◌^◌, [], ◌∷◌, arith}
use Rattle.db_format.proofs.PutLemmas.{one_fits, puts}
use Rattle.db_format.proofs.header.put_short.Goals as goal

pub returns : goal.returns
returns c = puts 2 c.args.place c.args.page.now (c.args.number ∷ []) c.write_u16_into.new.dst _ (one_fits c.args.number (2 ^ 16) (omega arith)) c.requires (omega arith) c.write_u16_into.ensures
