use Rattle.std.proofs.Common.{IsTrue}
use Rattle.std.proofs.lemmas.Int.{to_z-of_z}
use Rattle.std.proofs.lemmas.Result.{err_from_is_err_and}
use Rattle.tree_remove.specs.Remove.{RemoveDone, RemoveRefused}
use Rattle.rowid_tree.specs.Removes.{RemovesRow, MayBeLargeWithout}
use Rattle.table_store.specs.Writes.{RowIsRead}
use Rattle.table_store.proofs.WriteLemmas.{row_taken, stops_taking}
use Rattle.table_store.proofs.writes.remove_row.Goals as goal

pub returns-in_err-removed-clause-refused : goal.returns-in_err-removed-clause-refused
returns-in_err-removed-clause-refused g c =
    let state = g.S.PageSpace.state in
    let old = state c.args.space.now in
    let mid = state c.place_at.new.space in
    let new = state c.remove.new.space in
    let place = c.in_ok-place.place in
    let first = c.in_ok-place.ensures in
    let stops = c.in_err-removed.ensures in
    let fault = c.in_err-removed.field-0.0 in
    let key_fits = c.ranges.rowid in
    let read : IsTrue old.tells → RowIsRead old.pages c.args.name.now c.args.rowid = simp to_z-of_z at first.read in
    let refused : RemoveRefused mid new place.root c.args.rowid fault = simp to_z-of_z at stops.refused in
    let large : IsTrue mid.tells → MayBeLargeWithout mid.pages place.root c.args.rowid mid.page_size fault = simp to_z-of_z at stops.large in
    let p = err_from_is_err_and c.from_residual-in_err-removed.result c.from_residual-in_err-removed.ensures.1 in
    rw (p.1, p.2) (stops_taking old mid new c.args.name.now c.args.rowid place fault first.steady first.stays stops.steady first.found read refused large stops.clean)

pub returns-clause-done : goal.returns-clause-done
returns-clause-done g c =
    let state = g.S.PageSpace.state in
    let old = state c.args.space.now in
    let mid = state c.place_at.new.space in
    let new = state c.remove.new.space in
    let place = c.in_ok-place.place in
    let first = c.in_ok-place.ensures in
    let is = c.in_ok-removed.ensures in
    let key_fits = c.ranges.rowid in
    let read : IsTrue old.tells → RowIsRead old.pages c.args.name.now c.args.rowid = simp to_z-of_z at first.read in
    let removed = c.in_ok-removed.removed in
    let done : IsTrue mid.tells → RemoveDone mid.page_size mid.pages new.pages new.changed place.root c.args.rowid removed = simp to_z-of_z at is.done in
    let removes : IsTrue mid.tells → RemovesRow mid.pages new.pages place.root c.args.rowid removed = simp to_z-of_z at is.removes in
    row_taken place first.steady first.stays first.found read done is.nothing removes is.changed
