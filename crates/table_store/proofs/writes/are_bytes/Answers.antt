use Rattle.std.proofs.Common.{arith}
use Rattle.table_store.proofs.WriteLemmas.{all_bytes}
use Rattle.table_store.proofs.writes.are_bytes.Goals as goal

pub returns : goal.returns
returns c = all_bytes c.args.bytes.now (λ i. omega (arith, c.type_inv.bytes i))
