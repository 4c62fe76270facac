use Rattle.std.proofs.Common.{◌<ℤ◌, IfOk, IfErr, SFits, w64, arith}
use Rattle.std.proofs.lemmas.Int.{to_z-of_z, ints}
use Rattle.std.proofs.lemmas.Result.{IfOk-weaker, IfErr-weaker}
use Rattle.tree_model.specs.Whole.{below_all}
use Rattle.table_store.specs.Books.{OfBook}
use Rattle.table_store.specs.Writes.{RowPutIn, PutFails}
use Rattle.table_store.specs.Changed.{BookPut, BookPutFails}
use Rattle.table_store.proofs.ChangedLemmas.{book_put, put_clean}
use Rattle.table_store.proofs.writes.put.Goals as goal

pub returns-clause-whole : goal.returns-clause-whole
returns-clause-whole g c = λ t.
    let state = g.S.PageSpace.state in
    let old = state c.args.space.now in
    let new = state c.put_values.new.space in
    let key_fits : SFits w64 c.args.rowid = c.ranges.rowid in
    let done : IfOk c.put_values.result (RowPutIn old new c.args.name.now c.args.rowid c.args.values.now) = simp to_z-of_z at c.put_values.ensures.done in
    IfOk-weaker c.put_values.result (RowPutIn old new c.args.name.now c.args.rowid c.args.values.now)
    (λ replaced. OfBook old.pages (λ book. BookPut old new book c.args.name.now c.args.rowid c.args.values.now replaced))
    (λ replaced put. book_put c.one_create.ensures c.schema_read.ensures c.tables_read.ensures c.record_has_size.ensures c.row_put.ensures c.front_kept.ensures old new c.args.name.now c.args.rowid c.args.values.now
    replaced t c.put_values.ensures.steady put) done

pub returns-clause-clean : goal.returns-clause-clean
returns-clause-clean g c = λ t.
    let state = g.S.PageSpace.state in
    let old = state c.args.space.now in
    let new = state c.put_values.new.space in
    let key_fits : SFits w64 c.args.rowid = c.ranges.rowid in
    let above : below_all <ℤ c.args.rowid = omega (arith, ints, key_fits) in
    let refused : IfErr c.put_values.result (PutFails old new c.args.name.now c.args.rowid c.args.values.now) = simp to_z-of_z at c.put_values.ensures.refused in
    IfErr-weaker c.put_values.result (PutFails old new c.args.name.now c.args.rowid c.args.values.now)
    (λ fault. OfBook old.pages (λ book. BookPutFails old.page_size book c.args.name.now c.args.rowid c.args.values.now fault))
    (λ fault fails. put_clean c.one_create.ensures c.schema_read.ensures c.tables_read.ensures c.row_read.ensures c.record_has_size.ensures c.large_put.ensures old new c.args.name.now
    c.args.rowid c.args.values.now fault t above fails) refused
