use Rattle.vfs_trait.specs.State.{file_at}
use Rattle.pager_core.proofs.CommitLemmas.{left_at, written}
use Rattle.pager_core.proofs.commit.write_at.Goals as goal

pub returns-in-Ok-clause-wrote : goal.returns-in-Ok-clause-wrote
returns-in-Ok-clause-wrote g c = λ told.
    let a = g.V.Vfs.state c.args.stack.now in
    let b = g.V.Vfs.state c.write.new.self in
    let fid = c.args.fid.0 in
    written _ (file_at a fid) (file_at b fid) c.args.at c.args.bytes.now (c.requires.reach told) (left_at a b fid _ c.in-Ok.ensures.rests.opens c.in-Ok.ensures.leaves told)
