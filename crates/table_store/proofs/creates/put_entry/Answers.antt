use Rattle.std.proofs.Common.{inr, IsTrue, ◌∙◌, arith}
use Rattle.std.proofs.lemmas.Int.{to_z-of_z}
use Rattle.std.proofs.lemmas.Result.{err_from_is_err_and}
use Rattle.rowid_tree.specs.Puts.{PutDone, PutRefused, PutsRow, MayBeLarge}
use Rattle.table_store.specs.Made.{IsEntryRecord}
use Rattle.table_store.proofs.CreateStepLemmas.{put_no_fewer, entry_record}
use Rattle.table_store.proofs.creates.put_entry.Goals as goal

pub returns-in_err-_replaced-clause-refused : goal.returns-in_err-_replaced-clause-refused
returns-in_err-_replaced-clause-refused g c =
    let state = g.S.PageSpace.state in
    let old = state c.args.space.now in
    let new = state c.put.new.space in
    let entry = c.args.entry in
    let bytes = c.as_slice-bytes.result.now in
    let stops = c.in_err-_replaced.ensures in
    let fault = c.in_err-_replaced.field-0.0 in
    let key_fits = c.ranges.entry in
    let is : IsEntryRecord c.args.table.now c.args.root bytes =
    entry_record c.args.table.now c.args.root c.as_slice.result.now c.in_ok-payload.payload bytes c.as_slice-bytes.ensures (c.as_slice.ensures ∙ c.in_ok-values.ensures) c.are_bytes.ensures
    c.in_ok-payload.ensures.is_record c.in_ok-payload.ensures.shortest
    in
    let refused : PutRefused old new 1 entry bytes fault = simp to_z-of_z at stops.refused in
    let large : IsTrue old.tells → MayBeLarge old.pages 1 entry bytes old.page_size fault = simp to_z-of_z at stops.large in
    let p = err_from_is_err_and c.from_residual-in_err-_replaced.result c.from_residual-in_err-_replaced.ensures.1 in
    rw (p.1, p.2) (inr (record { payload = bytes; is = is; refused = refused; large = large; clean = stops.clean }))

pub returns-clause-some : goal.returns-clause-some
returns-clause-some g c =
    let more = put_no_fewer c.in_ok-_replaced.ensures.done in
    omega (arith, more, c.requires.some)

pub returns-clause-put : goal.returns-clause-put
returns-clause-put g c =
    let state = g.S.PageSpace.state in
    let old = state c.args.space.now in
    let new = state c.put.new.space in
    let entry = c.args.entry in
    let bytes = c.as_slice-bytes.result.now in
    let key_fits = c.ranges.entry in
    let replaced = c.in_ok-_replaced._replaced in
    let is : IsEntryRecord c.args.table.now c.args.root bytes =
    entry_record c.args.table.now c.args.root c.as_slice.result.now c.in_ok-payload.payload bytes c.as_slice-bytes.ensures (c.as_slice.ensures ∙ c.in_ok-values.ensures) c.are_bytes.ensures
    c.in_ok-payload.ensures.is_record c.in_ok-payload.ensures.shortest
    in
    let done : PutDone old new 1 entry bytes replaced = simp to_z-of_z at c.in_ok-_replaced.ensures.done in
    let puts : IsTrue old.tells → PutsRow old.pages new.pages 1 entry bytes replaced = simp to_z-of_z at c.in_ok-_replaced.ensures.puts in
    record { payload = bytes; is = is; replaced = replaced; done = done; puts = puts }
