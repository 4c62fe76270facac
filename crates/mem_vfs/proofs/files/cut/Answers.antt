use Rattle.mem_vfs.specs.Change.{IsCut}
use Rattle.std.proofs.Common.{slice_set}
use Rattle.mem_vfs.proofs.StoreLemmas.{changes, still_there}
use Rattle.mem_vfs.proofs.files.cut.Goals as goal

pub returns-clause-cut : goal.returns-clause-cut
returns-clause-cut c = changes (IsCut c.args.len) c.args.files.now c.place_in-place.result c.args.name.now c.index-files-place.result c.cut.new.self c.place_in-place.ensures.place c.index-files-place.is c.cut.ensures.name c.cut.ensures.cut

pub returns-clause-stay : goal.returns-clause-stay
returns-clause-stay c =
    let h = changes (IsCut c.args.len) c.args.files.now c.place_in-place.result c.args.name.now c.index-files-place.result c.cut.new.self c.place_in-place.ensures.place c.index-files-place.is c.cut.ensures.name c.cut.ensures.cut in
    still_there (IsCut c.args.len) c.args.files.now (slice_set c.args.files.now c.place_in-place.result c.cut.new.self) c.args.name.now h h.file.cut.touched.there
