use Rattle.std.proofs.Common.{refl}
use Rattle.book_model.specs.Book.{with_table}
use Rattle.ref_book.specs.Shelf.{book_of}
use Rattle.ref_book.proofs.Becomes.{mapped, becomes}
use Rattle.ref_book.proofs.shelf.MapShelfShelf.with_table.Goals as goal

pub returns : goal.returns
returns c =
    let book = book_of c.args.self.now in
    mapped c.with_table_at.result (λ shelf is. becomes book (λ root. with_table book c.args.name.now c.args.columns root) (book_of shelf) 0 refl refl is) c.with_table_at.ensures
