use Rattle.mem_vfs.specs.Change.{IsDeleted}
use Rattle.mem_vfs.proofs.StoreLemmas.{changes}
use Rattle.mem_vfs.proofs.files.delete_at.Goals as goal

pub returns : goal.returns
returns c = changes IsDeleted c.args.files.now c.args.place c.args.name.now c.index-files-place.result c.delete.new.self c.requires.at c.index-files-place.is c.delete.ensures.name c.delete.ensures.deleted
