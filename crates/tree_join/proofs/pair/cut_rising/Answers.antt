use Rattle.std.proofs.Common.{List, subst}
use Rattle.tree_page.specs.declared.cell.InnerCell.{InnerCell}
use Rattle.tree_join.specs.Join.{KeysRise}
use Rattle.tree_join.proofs.PairLemmas.{may_cut}
use Rattle.tree_join.proofs.pair.cut_rising.Goals as goal

pub cut-requires-clause-may : goal.cut-requires-clause-may
cut-requires-clause-may c =
    let P : List InnerCell → Type 0 = λ l. KeysRise l in
    may_cut c.args.usable c.args.page.right c.args.page.cells c.requires.some (subst P c.as_slice.ensures (c.rises.ensures.0 c.if-not-rises.false)) c.requires.room
