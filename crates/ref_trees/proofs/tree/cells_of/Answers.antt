use Rattle.std.proofs.Common.{ℕ, inl, inr, Result, subst, arith}
use Rattle.page_list.specs.Pages.{Pages}
use Rattle.tree_page.specs.declared.cell.PageCells.{PageCells}
use Rattle.tree_model.specs.Held.{HasCells}
use Rattle.tree_model.specs.declared.ends.Fault.{Fault}
use Rattle.tree_model.specs.Walk.{IsFault}
use Rattle.ref_pages.specs.AsPages.{pages_of}
use Rattle.ref_trees.specs.Entered.{IsEntered}
use Rattle.ref_trees.proofs.tree.cells_of.Goals as goal

-- a page that cannot be entered has no cells
no_cells : (pages : Pages) (above page : ℕ) (fault : Fault) → IsFault pages 1 above page fault → (cells : PageCells) → ¬ (HasCells pages page cells)
no_cells pages above page fault (inl f) cells has = f.0 has.there
no_cells pages above page fault (inr (inl f)) cells has = omega (arith, f.1)
no_cells pages above page fault (inr (inr (inl f))) cells has = f.2 has.good
no_cells pages above page fault (inr (inr (inr f))) cells has = f.3 cells has.reads

pub returns-in-Err-clause-none : goal.returns-in-Err-clause-none
returns-in-Err-clause-none c =
    let P : Result PageCells Fault → Type 0 = λ entered. IsEntered (pages_of c.args.pages.now) 1 c.args.page c.args.page entered in
    no_cells (pages_of c.args.pages.now) c.args.page c.args.page c.in-Err.field-0 (subst P c.in-Err.is c.in_ok-cells.ensures)
