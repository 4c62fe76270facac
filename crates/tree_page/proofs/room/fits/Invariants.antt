use Rattle.std.proofs.Common.{◌-◌, drop, None}
use Rattle.tree_page.specs.Page.{cells_of, first_pointer, page_kind}
use Rattle.tree_page.proofs.FitLemmas.{FitsFrom}
use Rattle.tree_page.proofs.room.fits.Given as goal

-- all fit exactly where the cells from here on do
abbrev pub invariant-loop-at : goal.invariant-loop-at
invariant-loop-at l = record {
  more : FitsFrom l.usable l.last l.room (drop l.at (cells_of l.cells)) → FitsFrom l.usable None (l.usable - first_pointer l.number (page_kind l.cells)) (cells_of l.cells);
  rest : FitsFrom l.usable None (l.usable - first_pointer l.number (page_kind l.cells)) (cells_of l.cells) → FitsFrom l.usable l.last l.room (drop l.at (cells_of l.cells));
}
