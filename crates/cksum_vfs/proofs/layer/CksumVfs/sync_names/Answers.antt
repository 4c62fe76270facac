use Rattle.cksum_vfs.proofs.Lifts.{names_follow}
use Rattle.cksum_vfs.proofs.layer.CksumVfs.sync_names.Goals as goal

pub returns-clause-follows : goal.returns-clause-follows
returns-clause-follows g c =
    names_follow c.args.self.now.below.size (g.V.Vfs.state c.args.self.now.below.inner) (g.V.Vfs.state c.sync_names.new.self) c.sync_names.result c.sync_names.ensures.follows
