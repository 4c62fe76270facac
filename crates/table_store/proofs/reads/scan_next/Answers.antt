use Rattle.std.proofs.Common.{IsTrue, List, Option, ℤ, ◌≤ℤ◌, arith}
use Rattle.std.proofs.lemmas.Int.{to_z-of_z, ints}
use Rattle.std.specs.Prelude.{IfOk, IfErr}
use Rattle.db_format.specs.declared.value.Value.{Value}
use Rattle.book_reads.specs.Reads.{least}
use Rattle.table_store.specs.declared.fault.TableFault.{TableFault}
use Rattle.table_store.specs.Tables.{ScansNext, NextMeets, ReadRefused}
use Rattle.table_store.specs.Books.{OfBook, BookNext, BookRefused}
use Rattle.table_store.proofs.BookLemmas.{if_ok, if_err, book_next, next_clean}
use Rattle.table_store.proofs.reads.scan_next.Goals as goal

pub returns-clause-whole : goal.returns-clause-whole
returns-clause-whole g c = λ t.
    let pages = (g.S.PageSpace.state c.args.space.now).pages in
    let name = c.args.name.now in
    let from_fits = c.ranges.from in
    let above : least ≤ℤ c.args.from = omega (arith, ints) in
    let P : Option (ℤ × List Value) → Type 0 = ScansNext pages name c.args.from c.args.to in
    let Q : Option (ℤ × List Value) → Type 0 = λ found. OfBook pages (λ book. BookNext book name c.args.from c.args.to found) in
    let to_fits = c.ranges.to in
    let found : IsTrue (g.S.PageSpace.state c.args.space.now).tells → IfOk c.next_of.result P = simp to_z-of_z at c.next_of.ensures.found in
    if_ok P Q c.next_of.result (λ found got. book_next c.tables_read.ensures c.rows_read.ensures pages name c.args.from c.args.to found above got) (found t)

pub returns-clause-clean : goal.returns-clause-clean
returns-clause-clean g c = λ t.
    let state = g.S.PageSpace.state in
    let old = state c.args.space.now in
    let new = state c.next_of.new.space in
    let name = c.args.name.now in
    let from_fits = c.ranges.from in
    let above : least ≤ℤ c.args.from = omega (arith, ints) in
    let P : TableFault → Type 0 = ReadRefused old new name (NextMeets old.pages c.args.from c.args.to) in
    let Q : TableFault → Type 0 = λ fault. OfBook old.pages (λ book. BookRefused book name fault) in
    let to_fits = c.ranges.to in
    let refused : IfErr c.next_of.result P = simp to_z-of_z at c.next_of.ensures.refused in
    if_err P Q c.next_of.result (λ fault is. next_clean c.schema_read.ensures c.tables_read.ensures c.rows_read.ensures old new name c.args.from c.args.to fault t above is) refused
