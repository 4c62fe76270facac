use Rattle.std.proofs.Common.{IfOk, IfErr, SFits, w64}
use Rattle.std.proofs.lemmas.Int.{to_z-of_z}
use Rattle.std.proofs.lemmas.Result.{IfOk-weaker, IfErr-weaker}
use Rattle.table_store.specs.Books.{OfBook}
use Rattle.table_store.specs.Writes.{RowTakenFrom, RemoveFails}
use Rattle.table_store.specs.Changed.{BookRemoved, BookRemoveFails}
use Rattle.table_store.proofs.ChangedLemmas.{book_removed, remove_clean}
use Rattle.table_store.proofs.writes.remove.Goals as goal

pub returns-clause-whole : goal.returns-clause-whole
returns-clause-whole g c = λ t.
    let state = g.S.PageSpace.state in
    let old = state c.args.space.now in
    let new = state c.remove_row.new.space in
    let key_fits : SFits w64 c.args.rowid = c.ranges.rowid in
    let done : IfOk c.remove_row.result (RowTakenFrom old new c.args.name.now c.args.rowid) = simp to_z-of_z at c.remove_row.ensures.done in
    IfOk-weaker c.remove_row.result (RowTakenFrom old new c.args.name.now c.args.rowid) (λ removed. OfBook old.pages (λ book. BookRemoved old new book c.args.name.now c.args.rowid removed))
    (λ removed taken. book_removed c.one_create.ensures c.schema_read.ensures c.tables_read.ensures c.row_removed.ensures c.front_kept.ensures old new c.args.name.now c.args.rowid removed t
    c.remove_row.ensures.steady taken) done

pub returns-clause-clean : goal.returns-clause-clean
returns-clause-clean g c = λ t.
    let state = g.S.PageSpace.state in
    let old = state c.args.space.now in
    let new = state c.remove_row.new.space in
    let key_fits : SFits w64 c.args.rowid = c.ranges.rowid in
    let refused : IfErr c.remove_row.result (RemoveFails old new c.args.name.now c.args.rowid) = simp to_z-of_z at c.remove_row.ensures.refused in
    IfErr-weaker c.remove_row.result (RemoveFails old new c.args.name.now c.args.rowid) (λ fault. OfBook old.pages (λ book. BookRemoveFails old.page_size book c.args.name.now c.args.rowid fault))
    (λ fault fails. remove_clean c.one_create.ensures c.schema_read.ensures c.tables_read.ensures c.row_read.ensures c.large_removal.ensures old new c.args.name.now c.args.rowid fault t fails) refused
