use Rattle.mem_vfs.specs.Memory.{store}
use Rattle.mem_vfs.specs.Change.{Writes}
use Rattle.std.proofs.Common.{slice_set}
use Rattle.mem_vfs.proofs.StoreLemmas.{changes, still_there}
use Rattle.mem_vfs.proofs.WriteLemmas.{writes_there}
use Rattle.mem_vfs.proofs.files.write.Goals as goal

pub returns-clause-writes : goal.returns-clause-writes
returns-clause-writes c = changes (Writes c.write.result c.args.off c.args.bytes.now) c.args.files.now c.place_in-place.result c.args.name.now c.index-files-place.result c.write.new.self c.place_in-place.ensures.place c.index-files-place.is c.write.ensures.name c.write.ensures.writes

pub returns-clause-stay : goal.returns-clause-stay
returns-clause-stay c =
    let h = changes (Writes c.write.result c.args.off c.args.bytes.now) c.args.files.now c.place_in-place.result c.args.name.now c.index-files-place.result c.write.new.self c.place_in-place.ensures.place c.index-files-place.is c.write.ensures.name c.write.ensures.writes in
    still_there (Writes c.write.result c.args.off c.args.bytes.now) c.args.files.now (slice_set c.args.files.now c.place_in-place.result c.write.new.self) c.args.name.now h (writes_there c.write.result c.args.off c.args.bytes.now (store c.args.files.now c.args.name.now) (store (slice_set c.args.files.now c.place_in-place.result c.write.new.self) c.args.name.now) h.file)
