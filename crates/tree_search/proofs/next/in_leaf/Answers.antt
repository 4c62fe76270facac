use Rattle.std.proofs.Common.{◌≡◌, ◌∙◌, sym}
use Rattle.std.proofs.lemmas.Int.{to_z-of_z}
use Rattle.tree_model.specs.Walk.{first_from}
use Rattle.tree_search.proofs.CellLemmas.{first_onward}
use Rattle.tree_search.proofs.next.in_leaf.Goals as goal

pub returns-clause-onward : goal.returns-clause-onward
returns-clause-onward c =
    let key_fits = c.ranges.key in
    let found : c.first_from.result ≡ first_from c.args.key c.args.cells = simp to_z-of_z at c.first_from.ensures in
    first_onward c.args.key c.args.cells c.in-Some.cell (sym found ∙ c.in-Some.is)
