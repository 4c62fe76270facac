use Rattle.std.proofs.lemmas.Result.{IfErr-weaker, on_ok_weaker}
use Rattle.table_store.specs.Books.{OfBook}
use Rattle.table_store.specs.Dropped.{DropFails, BookDropFails}
use Rattle.table_store.proofs.DropBookLemmas.{book_dropped, drop_clean}
use Rattle.table_store.proofs.drops.drop_table.Goals as goal

pub returns-clause-whole : goal.returns-clause-whole
returns-clause-whole g c = λ t.
    let state = g.S.PageSpace.state in
    let old = state c.args.space.now in
    let new = state c.drop_found.new.space in
    on_ok_weaker c.drop_found.result
    (λ done. book_dropped c.one_create.ensures c.schema_read.ensures c.tables_read.ensures c.table_dropped.ensures c.front_kept.ensures old new c.args.name.now t c.drop_found.ensures.steady done)
    c.drop_found.ensures.done

pub returns-clause-clean : goal.returns-clause-clean
returns-clause-clean g c = λ t.
    let state = g.S.PageSpace.state in
    let old = state c.args.space.now in
    let new = state c.drop_found.new.space in
    IfErr-weaker c.drop_found.result (DropFails old new c.args.name.now) (λ fault. OfBook old.pages (λ book. BookDropFails old.page_size book c.args.name.now fault))
    (λ fault fails. drop_clean c.one_create.ensures c.schema_read.ensures c.tables_read.ensures c.large_drop.ensures old new c.args.name.now fault t fails) c.drop_found.ensures.refused
