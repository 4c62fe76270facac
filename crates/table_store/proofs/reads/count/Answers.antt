use Rattle.std.proofs.Common.{ℕ}
use Rattle.table_store.specs.declared.fault.TableFault.{TableFault}
use Rattle.table_store.specs.Tables.{Counts, CountMeets, ReadRefused}
use Rattle.table_store.specs.Books.{OfBook, BookCount, BookRefused}
use Rattle.table_store.proofs.BookLemmas.{if_ok, if_err, book_count, count_clean}
use Rattle.table_store.proofs.reads.count.Goals as goal

pub returns-clause-whole : goal.returns-clause-whole
returns-clause-whole g c = λ t.
    let pages = (g.S.PageSpace.state c.args.space.now).pages in
    let name = c.args.name.now in
    let P : ℕ → Type 0 = Counts pages name in
    let Q : ℕ → Type 0 = λ found. OfBook pages (λ book. BookCount book name found) in
    if_ok P Q c.count_of.result (λ found got. book_count c.tables_read.ensures c.rows_read.ensures pages name found got) (c.count_of.ensures.found t)

pub returns-clause-clean : goal.returns-clause-clean
returns-clause-clean g c = λ t.
    let state = g.S.PageSpace.state in
    let old = state c.args.space.now in
    let new = state c.count_of.new.space in
    let name = c.args.name.now in
    let P : TableFault → Type 0 = ReadRefused old new name (CountMeets old.pages) in
    let Q : TableFault → Type 0 = λ fault. OfBook old.pages (λ book. BookRefused book name fault) in
    if_err P Q c.count_of.result (λ fault is. count_clean c.schema_read.ensures c.tables_read.ensures c.rows_read.ensures old new name fault t is) c.count_of.ensures.refused
