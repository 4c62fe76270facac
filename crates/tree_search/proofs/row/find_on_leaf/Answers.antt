use Rattle.std.proofs.Common.{◌≡◌, ◌≢◌, ◌∙◌, ap, sym, subst, refl, IsTrue, None, SFits, w64, to_z, of_z, rules}
use Rattle.std.proofs.lemmas.Int.{to_z-of_z}
use Rattle.std.proofs.lemmas.Result.{err_from_is_err_and}
use Rattle.page_list.specs.Pages.{Pages}
use Rattle.tree_model.specs.declared.ends.PathEnd.TheVariants.{Ends}
use Rattle.tree_model.specs.Walk.{Path, IsReadable, first_from}
use Rattle.tree_search.specs.Search.{SearchRefused, Descends}
use Rattle.tree_search.proofs.KeptLemmas.{first_kept}
use Rattle.tree_search.proofs.RowLemmas.{way_refused, no_cell, other_cell, row_found, row_refused}
use Rattle.tree_search.proofs.row.find_on_leaf.Goals as goal

pub returns-in_err-leaf-clause-refused : goal.returns-in_err-leaf-clause-refused
returns-in_err-leaf-clause-refused g c =
    let state = g.S.PageSpace.state in
    let old = state c.args.space.now in
    let new = state c.descend.new.space in
    let key_fits = c.ranges.rowid in
    let p = err_from_is_err_and c.from_residual.result c.from_residual.ensures.1 in
    let refused : SearchRefused old new (λ f. Path None old.pages c.args.root c.args.rowid (Ends f)) c.in_err-leaf.field-0.0 = simp to_z-of_z at c.in_err-leaf.ensures.refused in
    rw (p.1, p.2) (way_refused old new c.args.root c.args.rowid c.in_err-leaf.field-0.0 refused)

pub returns-in_default-clause-found : goal.returns-in_default-clause-found
returns-in_default-clause-found g c = λ t.
    let old = g.S.PageSpace.state c.args.space.now in
    let d = c.in_ok-leaf.field-0 in
    let key_fits = c.ranges.rowid in
    let way : IsTrue old.tells → Descends old.pages c.args.rowid c.args.root d.levels.items d.leaf d.cells = simp to_z-of_z at c.in_ok-leaf.ensures.found in
    let found : c.first_from.result ≡ first_from c.args.rowid d.cells = simp to_z-of_z at c.first_from.ensures in
    no_cell old.pages old.pages.size old.pages.usable c.args.root c.args.rowid d c.in_ok-leaf.ensures.sound (way t) (sym found ∙ c.in_default.is)

pub returns-then-cell-rowid-clause-found : goal.returns-then-cell-rowid-clause-found
returns-then-cell-rowid-clause-found g c = λ t.
    let old = g.S.PageSpace.state c.args.space.now in
    let d = c.in_ok-leaf.field-0 in
    let cell = c.in-Some.cell in
    let key_fits = c.ranges.rowid in
    let way : IsTrue old.tells → Descends old.pages c.args.rowid c.args.root d.levels.items d.leaf d.cells = simp to_z-of_z at c.in_ok-leaf.ensures.found in
    let found : c.first_from.result ≡ first_from c.args.rowid d.cells = simp to_z-of_z at c.first_from.ensures in
    let other : cell.rowid ≢ c.args.rowid = λ same. c.if-cell-rowid.true (ap (of_z w64) same) in
    other_cell old.pages old.pages.size old.pages.usable c.args.root c.args.rowid d cell c.in_ok-leaf.ensures.sound (way t) (sym found ∙ c.in-Some.is) other

pub payload_of-requires-clause-kept : goal.payload_of-requires-clause-kept
payload_of-requires-clause-kept g c =
    let old = g.S.PageSpace.state c.args.space.now in
    let d = c.in_ok-leaf.field-0 in
    let key_fits = c.ranges.rowid in
    let found : c.first_from.result ≡ first_from c.args.rowid d.cells = simp to_z-of_z at c.first_from.ensures in
    first_kept d.leaf old.pages.usable c.args.rowid d.cells c.in-Some.cell c.in_ok-leaf.ensures.sound.fits (sym found ∙ c.in-Some.is)

pub returns-in_err-payload-clause-refused : goal.returns-in_err-payload-clause-refused
returns-in_err-payload-clause-refused g c =
    let state = g.S.PageSpace.state in
    let old = state c.args.space.now in
    let d = c.in_ok-leaf.field-0 in
    let cell = c.in-Some.cell in
    let key_fits = c.ranges.rowid in
    let rowid_fits : SFits w64 cell.rowid = search rules in
    let way : IsTrue old.tells → Descends old.pages c.args.rowid c.args.root d.levels.items d.leaf d.cells = simp to_z-of_z at c.in_ok-leaf.ensures.found in
    let found : c.first_from.result ≡ first_from c.args.rowid d.cells = simp to_z-of_z at c.first_from.ensures in
    let keyed : cell.rowid ≡ c.args.rowid = sym (to_z-of_z w64 cell.rowid rowid_fits) ∙ ap (to_z w64) c.if-cell-rowid.false ∙ to_z-of_z w64 c.args.rowid key_fits in
    let p = err_from_is_err_and c.from_residual-in_err-payload.result c.from_residual-in_err-payload.ensures.1 in
    rw (p.1, p.2)
    (row_refused old (state c.descend.new.space) (state c.payload_of.new.space) old.pages.size old.pages.usable c.args.root c.args.rowid d cell c.in_err-payload.field-0.0
    c.in_ok-leaf.ensures.steady c.in_ok-leaf.ensures.stays c.in_ok-leaf.ensures.sound way (sym found ∙ c.in-Some.is) keyed c.in_err-payload.ensures.refused)

pub returns-clause-found : goal.returns-clause-found
returns-clause-found g c = λ t.
    let state = g.S.PageSpace.state in
    let old = state c.args.space.now in
    let d = c.in_ok-leaf.field-0 in
    let cell = c.in-Some.cell in
    let payload = c.in_ok-payload.payload in
    let key_fits = c.ranges.rowid in
    let rowid_fits : SFits w64 cell.rowid = search rules in
    let way : IsTrue old.tells → Descends old.pages c.args.rowid c.args.root d.levels.items d.leaf d.cells = simp to_z-of_z at c.in_ok-leaf.ensures.found in
    let found : c.first_from.result ≡ first_from c.args.rowid d.cells = simp to_z-of_z at c.first_from.ensures in
    let of_key : cell.rowid ≡ c.args.rowid = sym (to_z-of_z w64 cell.rowid rowid_fits) ∙ ap (to_z w64) c.if-cell-rowid.false ∙ to_z-of_z w64 c.args.rowid key_fits in
    let P : Pages → Type 0 = λ p. IsReadable None p cell payload in
    let readable : IsReadable None old.pages cell payload =
    subst P (c.in_ok-leaf.ensures.stays.pages_stay t) (c.in_ok-payload.ensures.found (c.in_ok-leaf.ensures.steady.told ∙ t)) in
    row_found old.pages old.pages.size old.pages.usable c.args.root c.args.rowid d cell _ c.in_ok-leaf.ensures.sound (way t) (sym found ∙ c.in-Some.is) of_key refl
    (to_z-of_z w64 c.args.rowid key_fits) readable
