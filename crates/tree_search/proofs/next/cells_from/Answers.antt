use Rattle.std.proofs.Common.{ℕ, ◌-◌, List, length, drop, ap, sym, ◌∙◌, arith, length-drop}
use Rattle.std.proofs.lemmas.List.{take_all}
use Rattle.tree_page.specs.declared.cell.InnerCell.{InnerCell}
use Rattle.tree_model.specs.Walk.{all_children}
use Rattle.tree_search.specs.Steps.{from_of}
use Rattle.tree_search.proofs.CellLemmas.{children_are}
use Rattle.tree_search.proofs.next.cells_from.Goals as goal

pub returns : goal.returns
returns c = λ right.
    let cells = c.args.cells.now in
    let at = c.place_from.result in
    children_are (from_of c.args.from) cells right
    ∙ ap (λ (n : ℕ). all_children (drop n cells) right) (sym c.place_from.ensures.is)
    ∙ ap (λ (l : List InnerCell). all_children l right) (sym (take_all (length cells - at) (drop at cells) (omega (arith, length-drop at cells))))
