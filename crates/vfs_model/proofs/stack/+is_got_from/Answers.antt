use Rattle.std.proofs.Common.{rules, ◌≡◌, ◌∷◌}
use Rattle.vfs_model.specs.Stack.{place_for}
use Rattle.vfs_model.proofs.StackLemmas.{as_taken}
use Rattle.vfs_model.proofs.stack.+is_got_from.Goals as goal

pub returns-then-eq : goal.returns-then-eq
returns-then-eq t c =
    let places : c.args.places.now ≡ c.in-Some-split_first.place.now ∷ c.in-Some-split_first.below.now = search rules in
    let layers : c.args.layers.now ≡ c.in-Some.layer.now ∷ c.in-Some.rest.now = search rules in
    let fits : c.in-Some-split_first.place.now ≡ place_for c.in-Some.layer.now = search rules in
    as_taken c.args.places.now c.in-Some-split_first.below.now c.in-Some-split_first.place.now c.args.layers.now c.in-Some.rest.now c.in-Some.layer.now places layers fits c.is_got_from.ensures
