use Rattle.vfs_trait.specs.State.{name_at}
use Rattle.cksum_vfs.proofs.Lifts.{cut_follows}
use Rattle.cksum_vfs.proofs.CallLemmas.{reach_below, cut_leaves}
use Rattle.cksum_vfs.proofs.layer.CksumVfs.cut.Goals as goal

pub cut-requires-clause-reach : goal.cut-requires-clause-reach
cut-requires-clause-reach g c = λ told. reach_below c.args.self.now.below.size (g.V.Vfs.state c.args.self.now.below.inner) c.args.fid.0 c.args.len (c.requires.reach told)

pub returns-clause-leaves : goal.returns-clause-leaves
returns-clause-leaves g c =
    let old = g.V.Vfs.state c.args.self.now.below.inner in
    cut_leaves c.args.self.now.below.size old (g.V.Vfs.state c.cut.new.self) (name_at old c.args.fid.0) c.args.len c.cut.result c.args.self.now.below.sized c.requires.pages c.requires.reach c.cut.ensures.leaves

pub returns-clause-follows : goal.returns-clause-follows
returns-clause-follows g c =
    cut_follows c.args.self.now.below.size (g.V.Vfs.state c.args.self.now.below.inner) (g.V.Vfs.state c.cut.new.self) c.cut.result c.args.fid.0 c.args.len c.cut.ensures.follows
