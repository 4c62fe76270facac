use Rattle.std.proofs.Common.{Option, ℕ, inl, ap, refl, subst, sym}
use Rattle.std.proofs.lemmas.Result.{err_from_is_err_and}
use Rattle.page_cut.specs.declared.parts.Sheet.{Sheet}
use Rattle.tree_remove.specs.Remove.{TakeOverRefused}
use Rattle.tree_remove.proofs.SettleLemmas.{stops_topping}
use Rattle.tree_remove.proofs.root.take_over.Goals as goal

pub returns-in_err-cells-clause-refused : goal.returns-in_err-cells-clause-refused
returns-in_err-cells-clause-refused g c =
    let state = g.S.PageSpace.state in
    let e = c.in_err-cells.ensures in
    let P : Option ℕ → Type 0 = λ o. TakeOverRefused (state c.args.space.now) (state c.read_cells.new.space) c.args.root o c.in_err-cells.field-0.0 in
    let p = err_from_is_err_and c.from_residual.result c.from_residual.ensures.1 in
    rw (p.1, p.2) (subst P (sym c.in-Some.is) (inl (e.stays, e.refused)))

pub returns-in_err-write_sheet-clause-refused : goal.returns-in_err-write_sheet-clause-refused
returns-in_err-write_sheet-clause-refused g c =
    let state = g.S.PageSpace.state in
    let old = state c.args.space.now in
    let new = state c.write_sheet.new.space in
    let fault = c.in_err-write_sheet.field-0.0 in
    let r = c.in_ok-cells.ensures in
    let P : Option ℕ → Type 0 = λ o. TakeOverRefused old new c.args.root o fault in
    let p = err_from_is_err_and c.from_residual-in_err-write_sheet.result c.from_residual-in_err-write_sheet.ensures.1 in
    rw (p.1, p.2)
    (subst P (sym c.in-Some.is)
    (stops_topping old (state c.read_cells.new.space) new c.args.root c.in-Some.child c.in_ok-cells.cells c.alone.result fault r.steady r.stays r.found
    (ap (λ (s : Sheet). s.number) c.alone.ensures) c.in_err-write_sheet.ensures.refused))

pub returns-in_err-write_sheet-2-clause-refused : goal.returns-in_err-write_sheet-2-clause-refused
returns-in_err-write_sheet-2-clause-refused g c =
    let state = g.S.PageSpace.state in
    let old = state c.args.space.now in
    let new = state c.write_sheet-2.new.space in
    let fault = c.in_err-write_sheet-2.field-0.0 in
    let r = c.in_ok-cells.ensures in
    let P : Option ℕ → Type 0 = λ o. TakeOverRefused old new c.args.root o fault in
    let p = err_from_is_err_and c.from_residual-in_err-write_sheet-2.result c.from_residual-in_err-write_sheet-2.ensures.1 in
    rw (p.1, p.2)
    (subst P (sym c.in-Some.is)
    (stops_topping old (state c.read_cells.new.space) new c.args.root c.in-Some.child c.in_ok-cells.cells _ fault r.steady r.stays r.found refl c.in_err-write_sheet-2.ensures.refused))
