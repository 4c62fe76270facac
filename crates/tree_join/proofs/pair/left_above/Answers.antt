use Rattle.std.proofs.Common.{◌≤◌, ◌*◌, ◌-◌, List, map, sym, subst}
use Rattle.tree_page.specs.declared.cell.InnerCell.{InnerCell}
use Rattle.tree_page.specs.Page.{inner}
use Rattle.tree_page.specs.Written.{space_of}
use Rattle.tree_join.proofs.PairLemmas.{above_room}
use Rattle.tree_join.proofs.pair.left_above.Goals as goal

pub cut_rising-requires-clause-room : goal.cut_rising-requires-clause-room
cut_rising-requires-clause-room c =
    let P : List InnerCell → Type 0 = λ l. space_of (map inner l) ≤ 2 * (c.args.usable - 12) in
    subst P (sym c.paired-cells.ensures)
    (above_room c.args.usable c.args.level.number c.args.level.right c.pair_at-pair.result c.args.level.cells c.args.front.now c.requires.least c.requires.page c.requires.few)
