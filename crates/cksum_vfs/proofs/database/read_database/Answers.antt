use Rattle.std.proofs.Common.{arith, length, ◌≡◌, Ok, Err}
use Rattle.vfs_trait.specs.State.{name_at}
use Rattle.cksum_vfs.specs.Summed.{over}
use Rattle.cksum_vfs.proofs.PartLemmas.{answered, zero_read}
use Rattle.cksum_vfs.proofs.database.read_database.Goals as goal

pub returns-in-Ok-clause-answered : goal.returns-in-Ok-clause-answered
returns-in-Ok-clause-answered g c =
    answered c.args.below.now.size (length c.args.page.now) (g.V.Vfs.state c.args.below.now.inner) (g.V.Vfs.state c.read_parts.new.below.inner) c.args.fid c.args.off c.read_parts.new.buf (Ok c.in-Ok.count)
    c.requires.size c.args.below.now.sized c.in-Ok.ensures.unchanged c.in-Ok.ensures.read tt

pub returns-in-Err-clause-answered : goal.returns-in-Err-clause-answered
returns-in-Err-clause-answered g c =
    let old = g.V.Vfs.state c.args.below.now.inner in
    let new = g.V.Vfs.state c.read_parts.new.below.inner in
    let size = c.args.below.now.size in
    let len : length c.clear.new.buf ≡ length c.read_parts.new.buf = omega (arith, c.clear.auto.buf) in
    answered size (length c.args.page.now) old new c.args.fid c.args.off c.clear.new.buf (Err c.in-Err.fault)
    c.requires.size c.args.below.now.sized c.in-Err.ensures.unchanged
    (zero_read (over size old) (over size new) (name_at old c.args.fid.0) c.args.off c.read_parts.new.buf c.clear.new.buf c.in-Err.fault len c.in-Err.ensures.read) c.clear.ensures
