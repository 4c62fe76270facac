use Rattle.cksum_vfs.proofs.StateLemmas.{sized_of}
use Rattle.cksum_vfs.proofs.layer.Cksum.new.Goals as goal

pub invariant_of-result : goal.invariant_of-result
invariant_of-result g c = record {
  sized = sized_of c.args.page c.requires.page;
  unchecked = record { each = λ page is. c.checked_once.ensures c.args.page (g.V.Vfs.state c.args.inner).layers c.requires.permitted };
}
