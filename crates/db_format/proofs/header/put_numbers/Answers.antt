use Rattle.std.proofs.Common.{arith}
use Rattle.db_format.proofs.PutLemmas.{puts}
use Rattle.db_format.proofs.header.put_numbers.Goals as goal

pub returns : goal.returns
returns c = puts 4 c.args.place c.args.page.now c.args.numbers.now c.write_u32_into.new.dst _ (λ i. omega (arith, c.type_inv.numbers i)) c.requires (omega arith) c.write_u32_into.ensures
