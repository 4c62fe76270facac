use Rattle.std.proofs.Common.{Option, IfNone, List, Vec, Global, subst}
use Rattle.tree_model.specs.Tree.{Row}
use Rattle.ref_pages.specs.AsPages.{pages_of}
use Rattle.ref_trees.specs.GatherSteps.{AreRowsOf}
use Rattle.ref_trees.specs.declared.tree_rows.RefRow.{RefRow}
use Rattle.ref_trees.proofs.HoldLemmas.{leaf_below}
use Rattle.ref_trees.proofs.tree.leaf_at.Goals as goal

pub returns-in_default-clause-none : goal.returns-in_default-clause-none
returns-in_default-clause-none c = λ levels tree has.
    let found = leaf_below c.one_page.ensures _ levels c.args.page c.args.cells.now c.requires tree has in
    let P : Option (Vec RefRow Global) → Type 0 = λ rows. IfNone rows ((rows : List Row) → ¬ (AreRowsOf (pages_of c.args.pages.now) c.args.cells.now rows)) in
    let none = subst P c.in_default.is c.in_ok-rows.ensures.none in
    none found.rows found.are
