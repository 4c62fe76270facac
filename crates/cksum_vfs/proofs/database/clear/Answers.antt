use Rattle.std.proofs.Common.{ap, ◌∙◌, slice_get, arith, length}
use Rattle.cksum_vfs.proofs.ReadLemmas.{get_zero}
use Rattle.cksum_vfs.proofs.database.clear.Goals as goal

pub returns : goal.returns
returns c = record { each = λ place less. ap (λ xs. slice_get xs place) (c.fill.ensures.after (λ y is. is)) ∙ get_zero (length c.args.buf.now) place (omega (arith, less, c.fill.ensures.len)) }
