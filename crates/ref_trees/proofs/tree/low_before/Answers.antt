use Rattle.std.proofs.Common.{◌≡◌, ◌+◌, ◌-◌, pos, Some, take, get_or, ap, sym, ◌∙◌, arith}
use Rattle.std.proofs.lemmas.Int.{to_z-of_z}
use Rattle.std.proofs.lemmas.List.{get_or_default}
use mir.Syntax.{w64}
use Rattle.tree_page.specs.declared.cell.InnerCell.{InnerCell}
use Rattle.ref_trees.specs.GatherSteps.{last_key}
use Rattle.ref_trees.proofs.HoldLemmas.{last_key_at}
use Rattle.ref_trees.proofs.tree.low_before.Goals as goal

pub returns : goal.returns
returns c =
    let cells = c.args.cells.now in
    let before = c.args.at - 1 in
    let none : InnerCell = record { child = 0; rowid = pos 0 } in
    let cell : InnerCell = get_or cells before none in
    let next : before + 1 ≡ c.args.at = omega (arith, c.if-at-eq0.false) in
    let here : cell ≡ get_or cells before cell = get_or_default cells before none cell (omega arith) in
    ap Some (to_z-of_z w64 c.key_of-key.result c.key_of-key.ensures.fits ∙ c.key_of-key.ensures.key)
    ∙ sym (ap (λ n. last_key c.args.low (take n cells)) (sym next) ∙ last_key_at c.args.low cells before cell (omega arith) here)
