use Rattle.std.proofs.Common.{List, ap, ◌∙◌}
use Rattle.book_model.specs.Book.{Name, with_table}
use Rattle.ref_book.specs.Shelf.{book_of}
use Rattle.ref_book.specs.Steps.{emptied}
use Rattle.ref_book.proofs.Needs.{passes_changed}
use Rattle.ref_book.proofs.shelf.MapShelf.root_may_pass.Goals as goal

pub returns : goal.returns
returns c =
    let book = book_of c.args.self.now in
    let name = c.args.name.now in
    let root = c.args.root in
    c.may_pass.ensures ∙ passes_changed book (book_of c.in_ok-changed.changed) (with_table book name c.args.columns.now root)
    (c.in_ok-changed.ensures ∙ ap (λ (columns : List Name). emptied (with_table book name columns root)) c.in_ok-twin.ensures)
