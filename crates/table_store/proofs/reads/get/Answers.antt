use Rattle.std.proofs.Common.{IsTrue, List, Option}
use Rattle.std.proofs.lemmas.Int.{to_z-of_z}
use Rattle.std.specs.Prelude.{IfOk, IfErr}
use Rattle.db_format.specs.declared.value.Value.{Value}
use Rattle.table_store.specs.declared.fault.TableFault.{TableFault}
use Rattle.table_store.specs.Tables.{GetsRow, RowMeets, ReadRefused}
use Rattle.table_store.specs.Books.{OfBook, BookRow, BookRefused}
use Rattle.table_store.proofs.BookLemmas.{if_ok, if_err, book_row, row_clean}
use Rattle.table_store.proofs.reads.get.Goals as goal

pub returns-clause-whole : goal.returns-clause-whole
returns-clause-whole g c = λ t.
    let pages = (g.S.PageSpace.state c.args.space.now).pages in
    let name = c.args.name.now in
    let P : Option (List Value) → Type 0 = GetsRow pages name c.args.rowid in
    let Q : Option (List Value) → Type 0 = λ found. OfBook pages (λ book. BookRow book name c.args.rowid found) in
    let key_fits = c.ranges.rowid in
    let found : IsTrue (g.S.PageSpace.state c.args.space.now).tells → IfOk c.row_of.result P = simp to_z-of_z at c.row_of.ensures.found in
    if_ok P Q c.row_of.result (λ found got. book_row c.tables_read.ensures c.row_read.ensures pages name c.args.rowid found got) (found t)

pub returns-clause-clean : goal.returns-clause-clean
returns-clause-clean g c = λ t.
    let state = g.S.PageSpace.state in
    let old = state c.args.space.now in
    let new = state c.row_of.new.space in
    let name = c.args.name.now in
    let P : TableFault → Type 0 = ReadRefused old new name (RowMeets old.pages c.args.rowid) in
    let Q : TableFault → Type 0 = λ fault. OfBook old.pages (λ book. BookRefused book name fault) in
    let key_fits = c.ranges.rowid in
    let refused : IfErr c.row_of.result P = simp to_z-of_z at c.row_of.ensures.refused in
    if_err P Q c.row_of.result (λ fault is. row_clean c.schema_read.ensures c.tables_read.ensures c.row_read.ensures old new name c.args.rowid fault t is) refused
