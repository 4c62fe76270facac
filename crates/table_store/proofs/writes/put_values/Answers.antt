use Rattle.std.proofs.Common.{inr, List, ℕ, IsTrue, sym, subst}
use Rattle.std.proofs.lemmas.Int.{to_z-of_z}
use Rattle.std.proofs.lemmas.Result.{err_from_is_err_and}
use Rattle.payload_chain.proofs.StateLemmas.{steady-on}
use Rattle.tree_write.proofs.WriteLemmas.{noted-on}
use Rattle.db_format.specs.Record.{IsRecord, IsShortest}
use Rattle.rowid_tree.specs.Puts.{PutDone, PutRefused, PutsRow, MayBeLarge}
use Rattle.table_store.specs.Writes.{RowIsRead}
use Rattle.table_store.proofs.WriteLemmas.{row_put_in, stops_putting}
use Rattle.table_store.proofs.writes.put_values.Goals as goal

pub returns-in_err-replaced-clause-refused : goal.returns-in_err-replaced-clause-refused
returns-in_err-replaced-clause-refused g c =
    let state = g.S.PageSpace.state in
    let old = state c.args.space.now in
    let mid = state c.place_for.new.space in
    let new = state c.put.new.space in
    let place = c.in_ok-place.place in
    let first = c.in_ok-place.ensures in
    let bytes = c.as_slice-bytes.result.now in
    let stops = c.in_err-replaced.ensures in
    let fault = c.in_err-replaced.field-0.0 in
    let key_fits = c.ranges.rowid in
    let read : IsTrue old.tells → RowIsRead old.pages c.args.name.now c.args.rowid = simp to_z-of_z at first.read in
    let R : List ℕ → Type 0 = λ l. IsRecord l c.args.values.now in
    let S : List ℕ → Type 0 = λ l. IsShortest l c.args.values.now in
    let refused : PutRefused mid new place.root c.args.rowid bytes fault = simp to_z-of_z at stops.refused in
    let large : IsTrue mid.tells → MayBeLarge mid.pages place.root c.args.rowid bytes mid.page_size fault = simp to_z-of_z at stops.large in
    let p = err_from_is_err_and c.from_residual-in_err-replaced.result c.from_residual-in_err-replaced.ensures.1 in
    rw (p.1, p.2)
    (stops_putting old mid new c.args.name.now c.args.rowid c.args.values.now place bytes fault first.steady first.stays stops.steady first.found read first.fit c.are_bytes.ensures
    (subst R (sym c.as_slice-bytes.ensures) c.in_ok-payload.ensures.is_record) (subst S (sym c.as_slice-bytes.ensures) c.in_ok-payload.ensures.shortest) refused large stops.clean)

pub returns-clause-steady : goal.returns-clause-steady
returns-clause-steady g c = steady-on c.in_ok-place.ensures.steady c.in_ok-replaced.ensures.steady

pub returns-clause-done : goal.returns-clause-done
returns-clause-done g c =
    let state = g.S.PageSpace.state in
    let old = state c.args.space.now in
    let mid = state c.place_for.new.space in
    let new = state c.put.new.space in
    let place = c.in_ok-place.place in
    let first = c.in_ok-place.ensures in
    let bytes = c.as_slice-bytes.result.now in
    let is = c.in_ok-replaced.ensures in
    let key_fits = c.ranges.rowid in
    let read : IsTrue old.tells → RowIsRead old.pages c.args.name.now c.args.rowid = simp to_z-of_z at first.read in
    let R : List ℕ → Type 0 = λ l. IsRecord l c.args.values.now in
    let S : List ℕ → Type 0 = λ l. IsShortest l c.args.values.now in
    let done : PutDone mid new place.root c.args.rowid bytes c.in_ok-replaced.replaced = simp to_z-of_z at is.done in
    let puts : IsTrue mid.tells → PutsRow mid.pages new.pages place.root c.args.rowid bytes c.in_ok-replaced.replaced = simp to_z-of_z at is.puts in
    row_put_in place bytes first.steady first.stays is.steady first.found read first.fit c.are_bytes.ensures (subst R (sym c.as_slice-bytes.ensures) c.in_ok-payload.ensures.is_record)
    (subst S (sym c.as_slice-bytes.ensures) c.in_ok-payload.ensures.shortest) done puts is.changed

pub returns-clause-noted : goal.returns-clause-noted
returns-clause-noted g c = noted-on c.in_ok-place.ensures.steady (inr c.in_ok-place.ensures.stays) c.in_ok-replaced.ensures.noted
