use Rattle.std.proofs.Common.{arith, length, sym, subst, ◌≡◌}
use Rattle.vfs_trait.specs.State.{name_at}
use Rattle.vfs_trait.specs.Calls.{ReadCaused}
use Rattle.vfs_trait.specs.Log.{Logs, outcome_of}
use Rattle.vfs_trait.specs.declared.log.Call.TheVariants.{Read}
use Rattle.vfs_trait.specs.declared.log.Outcome.TheVariants.{Bytes as Count}
use Rattle.cksum_vfs.proofs.PartLemmas.{other_answered}
use Rattle.cksum_vfs.proofs.database.read_other.Goals as goal

pub returns-clause-answered : goal.returns-clause-answered
returns-clause-answered g c =
    let old = g.V.Vfs.state c.args.below.now.inner in
    let new = g.V.Vfs.state c.read.new.self in
    let name = name_at old c.args.fid.0 in
    let len : length c.read.new.buf ≡ length c.args.buf.now = omega (arith, c.read.auto.buf) in
    other_answered c.args.below.now.size old new c.args.fid c.args.off c.read.new.buf c.read.result
    c.args.below.now.sized c.args.below.now.unchecked c.requires.other
    (record {
      steady = c.read.ensures.steady;
      cause = subst (λ n. ReadCaused old new name c.args.off n c.read.result) (sym len) c.read.ensures.cause;
      rests = c.read.ensures.rests;
      fills = c.read.ensures.fills;
      reads = c.read.ensures.reads;
      refused = c.read.ensures.refused;
      files = c.read.ensures.files;
      follows = c.read.ensures.follows;
      logs = subst (λ n. Logs old.layers old.log new.log (Read c.args.fid c.args.off n) (outcome_of Count c.read.result)) (sym len) c.read.ensures.logs;
      stands = c.read.ensures.stands;
    })
