use Rattle.std.proofs.Common.{arith}
use Rattle.vfs_model.specs.Name.{kind_of}
use Rattle.vfs_trait.specs.State.{name_at}
use Rattle.cksum_vfs.specs.Summed.{own_size}
use Rattle.cksum_vfs.proofs.CallLemmas.{length_over, written_over}
use Rattle.cksum_vfs.proofs.database.write_sealed.Goals as goal

pub write-requires-clause-reach : goal.write-requires-clause-reach
write-requires-clause-reach g c = λ told.
    let s = g.V.Vfs.state c.args.below.now.inner in
    let name = name_at s c.args.fid.0 in
    omega (arith, c.requires.reach told, length_over (own_size c.args.below.now.size (kind_of name)) (s.files name).now.bytes)

pub returns-clause-written : goal.returns-clause-written
returns-clause-written g c =
    written_over c.args.below.now.size (g.V.Vfs.state c.args.below.now.inner) (g.V.Vfs.state c.write.new.self) c.args.fid c.args.off c.args.bytes.now c.args.sealed.now c.write.result
    c.args.below.now.sized c.view_holds.ensures.stands c.requires.pages c.requires.sealed c.requires.reach
    (record {
      steady = c.write.ensures.steady;
      cause = c.write.ensures.cause;
      rests = c.write.ensures.rests;
      counts = c.write.ensures.counts;
      leaves = c.write.ensures.leaves;
      follows = c.write.ensures.follows;
      logs = c.write.ensures.logs;
      stands = c.write.ensures.stands;
    })
