use Rattle.std.proofs.Common.{take}
use Rattle.ref_pages.specs.AsPages.{pages_of}
use Rattle.ref_trees.specs.GatherSteps.{AreRowsOf}
use Rattle.ref_trees.proofs.tree_rows.rows_of_cells.Given as goal

-- the rows of the cells so far
abbrev pub invariant-loop-cell : goal.invariant-loop-cell
invariant-loop-cell l = AreRowsOf (pages_of l.pages) (take l.cell-index l.cells) l.rows.items
