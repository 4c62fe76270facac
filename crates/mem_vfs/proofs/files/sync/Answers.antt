use Rattle.vfs_model.specs.Effect.{Synced}
use Rattle.std.proofs.Common.{ap, slice_set}
use Rattle.mem_vfs.proofs.StoreLemmas.{changes, still_there}
use Rattle.mem_vfs.proofs.files.sync.Goals as goal

pub returns-clause-synced : goal.returns-clause-synced
returns-clause-synced c = changes Synced c.args.files.now c.place_in-place.result c.args.name.now c.index-files-place.result c.sync.new.self c.place_in-place.ensures.place c.index-files-place.is c.sync.ensures.name c.sync.ensures.synced

pub returns-clause-stay : goal.returns-clause-stay
returns-clause-stay c =
    let h = changes Synced c.args.files.now c.place_in-place.result c.args.name.now c.index-files-place.result c.sync.new.self c.place_in-place.ensures.place c.index-files-place.is c.sync.ensures.name c.sync.ensures.synced in
    still_there Synced c.args.files.now (slice_set c.args.files.now c.place_in-place.result c.sync.new.self) c.args.name.now h (ap (λ f. f.there) h.file.now)
