use Rattle.std.proofs.Common.{◌≡◌, ap, [], ◌∙◌, rules}
use Rattle.tree_page.specs.declared.cell.PageCells.TheVariants.{Leaf as LeafPage}
use Rattle.rowid_tree.proofs.RootLemmas.{empty_written}
use Rattle.rowid_tree.proofs.root.write_empty.Goals as goal

pub returns-clause-written : goal.returns-clause-written
returns-clause-written g c =
    let state = g.S.PageSpace.state in
    let none : c.new.result.items ≡ [] = search rules in
    let cells_are : c.from_vec-cells.result ≡ [] = c.from_vec-cells.ensures ∙ none in
    empty_written (state c.args.space.now) (state c.write_sheets.new.space) _ c.write_sheets.result c.requires.sizes c.requires.there (ap (λ l. LeafPage l) cells_are)
    c.write_sheets.ensures.size c.write_sheets.ensures.leaves c.write_sheets.ensures.changed
