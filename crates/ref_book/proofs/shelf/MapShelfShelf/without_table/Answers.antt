use Rattle.std.proofs.Common.{ℤ, refl, ap, rules, ◌∙◌}
use Rattle.std.proofs.lemmas.Int.{to_z-of_z}
use Rattle.std.specs.Prelude.{FitsSigned}
use Rattle.std.specs.Int.{w64}
use Rattle.std.specs.FinMap.{remove}
use Rattle.book_model.specs.Book.{Table, without_table}
use Rattle.ref_book.specs.Shelf.{book_of}
use Rattle.ref_book.specs.Steps.{emptied}
use Rattle.ref_book.proofs.Becomes.{mapped, becomes, with_maps}
use Rattle.ref_book.proofs.shelf.MapShelfShelf.without_table.Goals as goal

pub returns : goal.returns
returns c =
    let book = book_of c.args.self.now in
    let name = c.args.name.now in
    let fits : FitsSigned w64 c.entry-at.result = search rules in
    let at = to_z-of_z w64 c.entry-at.result fits ∙ c.entry-at.ensures ∙ ap (λ (t : Table). t.entry) c.read.ensures in
    let tables = c.in_ok-tables.ensures.are in
    let schema = c.in_ok-schema.ensures.are ∙ ap (λ (z : ℤ). remove book.schema z) at in
    mapped c.changed.result
    (λ shelf is. becomes book (λ root. without_table book name) (book_of shelf) 0 refl refl (is ∙ (λ i. emptied (with_maps book (tables i) (schema i)))))
    c.changed.ensures
