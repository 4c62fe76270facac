use Rattle.cksum_vfs.proofs.Lifts.{stands_over}
use Rattle.cksum_vfs.proofs.layer.CksumVfs.open.Goals as goal

pub returns-clause-stands : goal.returns-clause-stands
returns-clause-stands g c = stands_over c.args.self.now.below.size (g.V.Vfs.state c.open.new.self) c.args.self.now.below.sized c.open.ensures.stands
