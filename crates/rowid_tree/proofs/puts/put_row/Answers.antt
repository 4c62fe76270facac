use Rattle.std.proofs.Common.{◌∙◌, inl, inr, IsTrue, None, arith}
use Rattle.std.proofs.lemmas.Int.{to_z-of_z}
use Rattle.std.proofs.lemmas.Result.{err_from_is_err_and}
use Rattle.payload_chain.proofs.StateLemmas.{steady-on}
use Rattle.tree_write.proofs.WriteLemmas.{noted-on}
use Rattle.tree_model.specs.declared.ends.Fault.{Fault}
use Rattle.tree_model.specs.declared.ends.PathEnd.TheVariants.{Ends}
use Rattle.tree_model.specs.Walk.{Path}
use Rattle.tree_search.specs.Search.{Descends, SearchRefused}
use Rattle.rowid_tree.specs.Steps.{CellWritten}
use Rattle.rowid_tree.specs.Puts.{WayFound}
use Rattle.rowid_tree.proofs.CellLemmas.{way_later, written_more}
use Rattle.rowid_tree.proofs.PutLemmas.{put_done, stops_at_cell, stops_at_leaf, stops_at_chain}
use Rattle.rowid_tree.proofs.puts.put_row.Goals as goal

pub returns-in_err-descent-clause-refused : goal.returns-in_err-descent-clause-refused
returns-in_err-descent-clause-refused g c =
    let state = g.S.PageSpace.state in
    let old = state c.args.space.now in
    let key_fits = c.ranges.rowid in
    let A : Fault → Type 0 = λ fault. Path None old.pages c.args.root c.args.rowid (Ends fault) in
    let refused : SearchRefused old (state c.descend.new.space) A c.in_err-descent.field-0.0 = simp to_z-of_z at c.in_err-descent.ensures.refused in
    let p = err_from_is_err_and c.from_residual.result c.from_residual.ensures.1 in
    rw (p.1, p.2) (inl (c.in_err-descent.ensures.stays, refused))

pub returns-in_err-cell-clause-refused : goal.returns-in_err-cell-clause-refused
returns-in_err-cell-clause-refused g c =
    let state = g.S.PageSpace.state in
    let old = state c.args.space.now in
    let d = c.in_ok-descent.descent in
    let key_fits = c.ranges.rowid in
    let found : IsTrue old.tells → Descends old.pages c.args.rowid c.args.root d.levels.items d.leaf d.cells = simp to_z-of_z at c.in_ok-descent.ensures.found in
    let way : WayFound old (state c.descend.new.space) c.args.root c.args.rowid d =
    record { steady = c.in_ok-descent.ensures.steady; stays = c.in_ok-descent.ensures.stays; found = found; sound = c.in_ok-descent.ensures.sound } in
    let p = err_from_is_err_and c.from_residual-in_err-cell.result c.from_residual-in_err-cell.ensures.1 in
    rw (p.1, p.2) (inr (inl (stops_at_cell c.in_err-cell.field-0.0 way c.in_err-cell.ensures.steady c.in_err-cell.ensures.refused)))

pub place_cell-requires-clause-sound : goal.place_cell-requires-clause-sound
place_cell-requires-clause-sound g c =
    let state = g.S.PageSpace.state in
    let old = state c.args.space.now in
    let mid = state c.descend.new.space in
    let new = state c.write_cell.new.space in
    let first = c.in_ok-descent.ensures in
    let more = written_more _ c.args.payload.now c.in_ok-cell.cell c.in_ok-cell.ensures.written in
    way_later old.pages.size new.pages.size old.pages.usable new.pages.usable c.in_ok-descent.descent (omega (arith, more, first.stays.number))
    (c.in_ok-cell.ensures.steady.used ∙ first.steady.used) first.sound

pub returns-in_err-replaced-clause-refused : goal.returns-in_err-replaced-clause-refused
returns-in_err-replaced-clause-refused g c =
    let state = g.S.PageSpace.state in
    let old = state c.args.space.now in
    let d = c.in_ok-descent.descent in
    let key_fits = c.ranges.rowid in
    let found : IsTrue old.tells → Descends old.pages c.args.rowid c.args.root d.levels.items d.leaf d.cells = simp to_z-of_z at c.in_ok-descent.ensures.found in
    let way : WayFound old (state c.descend.new.space) c.args.root c.args.rowid d =
    record { steady = c.in_ok-descent.ensures.steady; stays = c.in_ok-descent.ensures.stays; found = found; sound = c.in_ok-descent.ensures.sound } in
    let wrote : CellWritten (state c.descend.new.space) (state c.write_cell.new.space) c.args.rowid c.args.payload.now c.in_ok-cell.cell = simp to_z-of_z at c.in_ok-cell.ensures.written in
    let p = err_from_is_err_and c.from_residual-in_err-replaced.result c.from_residual-in_err-replaced.ensures.1 in
    rw (p.1, p.2) (inr (inr (inl (stops_at_leaf c.in_err-replaced.field-0.0 way wrote c.in_err-replaced.ensures.steady c.in_err-replaced.ensures.refused))))

pub returns-in_err-free_replaced-clause-steady : goal.returns-in_err-free_replaced-clause-steady
returns-in_err-free_replaced-clause-steady g c =
    steady-on (steady-on (steady-on c.in_ok-descent.ensures.steady c.in_ok-cell.ensures.steady) c.in_ok-replaced.ensures.steady) c.in_err-free_replaced.ensures.steady

pub returns-in_err-free_replaced-clause-refused : goal.returns-in_err-free_replaced-clause-refused
returns-in_err-free_replaced-clause-refused g c =
    let state = g.S.PageSpace.state in
    let old = state c.args.space.now in
    let d = c.in_ok-descent.descent in
    let key_fits = c.ranges.rowid in
    let found : IsTrue old.tells → Descends old.pages c.args.rowid c.args.root d.levels.items d.leaf d.cells = simp to_z-of_z at c.in_ok-descent.ensures.found in
    let way : WayFound old (state c.descend.new.space) c.args.root c.args.rowid d =
    record { steady = c.in_ok-descent.ensures.steady; stays = c.in_ok-descent.ensures.stays; found = found; sound = c.in_ok-descent.ensures.sound } in
    let wrote : CellWritten (state c.descend.new.space) (state c.write_cell.new.space) c.args.rowid c.args.payload.now c.in_ok-cell.cell = simp to_z-of_z at c.in_ok-cell.ensures.written in
    let p = err_from_is_err_and c.from_residual-in_err-free_replaced.result c.from_residual-in_err-free_replaced.ensures.1 in
    rw (p.1, p.2)
    (inr (inr (inr (stops_at_chain c.in_err-free_replaced.field-0.0 way wrote c.in_ok-replaced.ensures.placed c.in_err-free_replaced.ensures.steady c.in_err-free_replaced.ensures.refused))))

pub returns-in_err-free_replaced-clause-noted : goal.returns-in_err-free_replaced-clause-noted
returns-in_err-free_replaced-clause-noted g c =
    let one = c.in_ok-descent.ensures in
    let two = c.in_ok-cell.ensures in
    let three = c.in_ok-replaced.ensures in
    noted-on (steady-on (steady-on one.steady two.steady) three.steady) (noted-on (steady-on one.steady two.steady) (noted-on one.steady (inr one.stays) two.noted) three.noted)
    c.in_err-free_replaced.ensures.noted

pub returns-clause-steady : goal.returns-clause-steady
returns-clause-steady g c =
    steady-on (steady-on (steady-on c.in_ok-descent.ensures.steady c.in_ok-cell.ensures.steady) c.in_ok-replaced.ensures.steady) c.in_ok-free_replaced.ensures.steady

pub returns-clause-done : goal.returns-clause-done
returns-clause-done g c =
    let state = g.S.PageSpace.state in
    let old = state c.args.space.now in
    let d = c.in_ok-descent.descent in
    let key_fits = c.ranges.rowid in
    let found : IsTrue old.tells → Descends old.pages c.args.rowid c.args.root d.levels.items d.leaf d.cells = simp to_z-of_z at c.in_ok-descent.ensures.found in
    let way : WayFound old (state c.descend.new.space) c.args.root c.args.rowid d =
    record { steady = c.in_ok-descent.ensures.steady; stays = c.in_ok-descent.ensures.stays; found = found; sound = c.in_ok-descent.ensures.sound } in
    let wrote : CellWritten (state c.descend.new.space) (state c.write_cell.new.space) c.args.rowid c.args.payload.now c.in_ok-cell.cell = simp to_z-of_z at c.in_ok-cell.ensures.written in
    put_done way wrote c.in_ok-replaced.ensures.placed c.in_ok-free_replaced.ensures.steady c.in_ok-free_replaced.ensures.freed c.in_ok-free_replaced.ensures.noted c.is_some.ensures

pub returns-clause-noted : goal.returns-clause-noted
returns-clause-noted g c =
    let one = c.in_ok-descent.ensures in
    let two = c.in_ok-cell.ensures in
    let three = c.in_ok-replaced.ensures in
    noted-on (steady-on (steady-on one.steady two.steady) three.steady) (noted-on (steady-on one.steady two.steady) (noted-on one.steady (inr one.stays) two.noted) three.noted)
    c.in_ok-free_replaced.ensures.noted
