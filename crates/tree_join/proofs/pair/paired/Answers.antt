use Rattle.std.proofs.Common.{◌≤◌, length, ◌∙◌, arith}
use Rattle.std.specs.Int.{w64}
use Rattle.std.proofs.lemmas.Int.{to_z-of_z}
use Rattle.tree_join.proofs.PairLemmas.{paired_first}
use Rattle.tree_join.proofs.pair.paired.Goals as goal

pub returns : goal.returns
returns c =
    let some : 1 ≤ length c.args.front.now = grind arith in
    c.from_vec-2.ensures
    ∙ paired_first c.args.pair c.args.cells c.into_vec-items.result.items c.args.front.now _ _ _ c.requires.pair c.into_vec-items.ensures some c.requires.few (to_z-of_z w64 _ (search c))
