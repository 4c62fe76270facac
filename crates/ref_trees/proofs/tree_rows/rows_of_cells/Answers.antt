use Rattle.std.proofs.Common.{◌≡◌, Option, IfNone, subst}
use Rattle.tree_model.specs.Tree.{Row}
use Rattle.tree_model.specs.Held.{HasRow}
use Rattle.ref_pages.specs.AsPages.{pages_of}
use Rattle.ref_trees.specs.declared.tree_rows.RefRow.{RefRow}
use Rattle.ref_trees.proofs.GatherLemmas.{no_rows}
use Rattle.ref_trees.proofs.tree_rows.rows_of_cells.Goals as goal

pub returns-in_default-clause-none : goal.returns-in_default-clause-none
returns-in_default-clause-none c =
    let P : Option RefRow → Type 0 = λ found. IfNone found ((row : Row) → row.cell ≡ c.cell-item.result → ¬ (HasRow (pages_of c.args.pages.now) row)) in
    no_rows _ c.args.cells.now c.loop-cell.cell-index c.cell-item.result c.loop-cell-test.true c.cell-item.is (subst P c.in_default.is c.in_ok-row.ensures.none)
