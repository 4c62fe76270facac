use Rattle.mem_vfs.proofs.PlaceLemmas.{some_place, place_within, place_found}
use Rattle.mem_vfs.proofs.StoreLemmas.{store_at}
use Rattle.mem_vfs.proofs.files.place_in.Goals as goal

pub unwrap-requires : goal.unwrap-requires
unwrap-requires c = some_place c.args.files.now c.args.name.now c.place_of.result c.place_of.ensures.place c.requires

pub returns-clause-place : goal.returns-clause-place
returns-clause-place c = place_found c.args.files.now c.args.name.now c.place_of.result c.unwrap.result c.place_of.ensures.place c.unwrap.ensures

pub returns-clause-within : goal.returns-clause-within
returns-clause-within c =
    place_within c.args.files.now c.args.name.now c.unwrap.result
    (place_found c.args.files.now c.args.name.now c.place_of.result c.unwrap.result c.place_of.ensures.place c.unwrap.ensures)

pub returns-clause-state : goal.returns-clause-state
returns-clause-state c = λ f is.
    store_at c.args.files.now c.args.name.now c.unwrap.result f
    (place_found c.args.files.now c.args.name.now c.place_of.result c.unwrap.result c.place_of.ensures.place c.unwrap.ensures) is
