use Rattle.std.proofs.lemmas.Result.{IfErr-weaker, on_ok_weaker}
use Rattle.table_store.specs.Books.{OfSpace}
use Rattle.table_store.specs.Made.{MakeFails, BookMakeFails}
use Rattle.table_store.proofs.CreateBookLemmas.{book_made}
use Rattle.table_store.proofs.CreateCleanLemmas.{make_clean}
use Rattle.table_store.proofs.creates.create.Goals as goal

pub returns-clause-whole : goal.returns-clause-whole
returns-clause-whole g c = λ t.
    let state = g.S.PageSpace.state in
    let old = state c.args.space.now in
    let new = state c.make_table.new.space in
    let table = c.args.table.now in
    on_ok_weaker c.make_table.result
    (λ done. book_made c.schema_read.ensures c.record_has_size.ensures c.first_page.ensures c.first_table.ensures c.table_made.ensures c.front_kept.ensures old new table c.requires.plain t
    c.make_table.ensures.steady done)
    c.make_table.ensures.done

pub returns-clause-clean : goal.returns-clause-clean
returns-clause-clean g c = λ t.
    let state = g.S.PageSpace.state in
    let old = state c.args.space.now in
    let new = state c.make_table.new.space in
    let table = c.args.table.now in
    IfErr-weaker c.make_table.result (MakeFails old new table) (λ fault. OfSpace old (λ book. BookMakeFails old.page_size book table fault))
    (λ fault fails. make_clean c.schema_read.ensures c.record_has_size.ensures c.first_page.ensures c.large_root.ensures c.large_entry.ensures c.rows_rise.ensures c.front_kept.ensures old new table fault
    c.requires.plain t c.make_table.ensures.steady fails) c.make_table.ensures.refused
