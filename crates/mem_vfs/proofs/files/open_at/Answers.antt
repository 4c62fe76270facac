use Rattle.mem_vfs.specs.Change.{IsOpened}
use Rattle.std.proofs.Common.{slice_set}
use Rattle.mem_vfs.proofs.StoreLemmas.{changes, now_there}
use Rattle.mem_vfs.proofs.files.open_at.Goals as goal

pub returns-clause-opened : goal.returns-clause-opened
returns-clause-opened c = changes IsOpened c.args.files.now c.args.place c.args.name.now c.index-files-place.result c.open.new.self c.requires.at c.index-files-place.is c.open.ensures.name c.open.ensures.opened

pub returns-clause-stay : goal.returns-clause-stay
returns-clause-stay c =
    let h = changes IsOpened c.args.files.now c.args.place c.args.name.now c.index-files-place.result c.open.new.self c.requires.at c.index-files-place.is c.open.ensures.name c.open.ensures.opened in
    now_there IsOpened c.args.files.now (slice_set c.args.files.now c.args.place c.open.new.self) c.args.name.now h h.file.opened.there
