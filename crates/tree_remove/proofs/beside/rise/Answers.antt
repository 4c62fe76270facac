use Rattle.std.proofs.Common.{ℕ, Option, None, IfSome, sym, subst}
use Rattle.tree_page.specs.Written.{Fits}
use Rattle.tree_page.specs.declared.cell.PageCells.TheVariants.{Interior}
use Rattle.tree_join.specs.declared.level.Left.{Left}
use Rattle.tree_join.specs.Join.{sibling_of}
use Rattle.tree_remove.specs.Shrink.{IsLeftPlan}
use Rattle.tree_remove.specs.Steps.{IsRise, HasFewParts}
use Rattle.tree_remove.proofs.ShrinkLemmas.{left_planned, left_few}
use Rattle.tree_remove.proofs.beside.rise.Goals as goal

pub returns-in_default-clause-risen : goal.returns-in_default-clause-risen
returns-in_default-clause-risen g c = λ t.
    let pages = (g.S.PageSpace.state c.args.space.now).pages in
    let P : Option ℕ → Type 0 = λ o. IsRise pages c.args.number o c.args.level c.goes.result in
    subst P (sym c.in_default.is) (c.leave_out.result, c.leave_out.ensures pages.usable c.requires.level.fits, c.goes.ensures)

pub returns-in_default-clause-planned : goal.returns-in_default-clause-planned
returns-in_default-clause-planned g c =
    let usable = (g.S.PageSpace.state c.args.space.now).pages.usable in
    let P : Option Left → Type 0 = λ o. IfSome o (IsLeftPlan c.args.level.number usable) in
    subst P (sym c.goes.ensures.next) (left_planned usable c.args.level c.leave_out.result (c.leave_out.ensures usable c.requires.level.fits))

pub join_with-requires-clause-page : goal.join_with-requires-clause-page
join_with-requires-clause-page g c =
    let P : ℕ → Type 0 = λ u. Fits (Interior c.args.level.cells c.args.level.right) c.args.level.number u in subst P (sym c.usable-usable.ensures.value) c.requires.level.fits

pub join_with-requires-clause-beside : goal.join_with-requires-clause-beside
join_with-requires-clause-beside g c =
    let P : ℕ → Type 0 = λ u. Fits c.in_ok-cells.cells (sibling_of c.args.level) u in
    let Q : ℕ → Type 0 = λ n. Fits c.in_ok-cells.cells n (g.S.PageSpace.state c.args.space.now).pages.usable in
    subst P (sym c.usable-usable.ensures.value) (subst Q c.in-Some-sibling.ensures.some.1 c.in_ok-cells.ensures.fits)

pub returns-in_default-clause-few : goal.returns-in_default-clause-few
returns-in_default-clause-few g c =
    let usable = (g.S.PageSpace.state c.args.space.now).pages.usable in
    let P : Option Left → Type 0 = λ o. IfSome o (HasFewParts None) in
    let Q : Option ℕ → Type 0 = λ o. IfSome c.goes.result.next (HasFewParts o) in
    subst Q (sym c.in_default.is) (subst P (sym c.goes.ensures.next) (left_few usable c.args.level c.leave_out.result (c.leave_out.ensures usable c.requires.level.fits)))
