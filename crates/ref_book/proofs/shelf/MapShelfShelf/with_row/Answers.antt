use Rattle.std.proofs.Common.{refl, ap, ◌∙◌}
use Rattle.std.specs.FinMap.{insert}
use Rattle.book_model.specs.Book.{Table, with_row, written_row}
use Rattle.ref_book.specs.Shelf.{book_of}
use Rattle.ref_book.specs.Steps.{emptied}
use Rattle.ref_book.proofs.Becomes.{mapped, becomes, with_table_of}
use Rattle.ref_book.proofs.shelf.MapShelfShelf.with_row.Goals as goal

pub returns : goal.returns
returns c =
    let book = book_of c.args.self.now in
    let same = c.in_ok-table.ensures ∙ ap (λ (t : Table). record t { rows = insert t.rows c.args.rowid.now (written_row c.args.values) }) c.read-table.ensures in
    mapped c.with_kept.result
    (λ shelf is. becomes book (λ root. with_row book c.args.name.now c.args.rowid.now c.args.values) (book_of shelf) 0 refl refl (is ∙ ap (λ (t : Table). emptied (with_table_of book c.args.name.now t)) same))
    c.with_kept.ensures
