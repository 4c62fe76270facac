use Rattle.std.proofs.Common.{ℤ, ap, rules, ◌∙◌}
use Rattle.std.proofs.lemmas.Int.{to_z-of_z}
use Rattle.std.specs.Prelude.{FitsSigned}
use Rattle.std.specs.Int.{w64}
use Rattle.std.specs.FinMap.{insert, empty}
use Rattle.book_model.specs.Book.{Table}
use Rattle.ref_book.specs.Shelf.{book_of}
use Rattle.ref_book.specs.Steps.{emptied}
use Rattle.ref_book.proofs.Becomes.{mapped, with_maps}
use Rattle.ref_book.proofs.shelf.MapShelf.with_table_at.Goals as goal

pub returns : goal.returns
returns c =
    let book = book_of c.args.self.now in
    let name = c.args.name.now in
    let fits : FitsSigned w64 c.next-at.result = search rules in
    let at = to_z-of_z w64 c.next-at.result fits ∙ c.next-at.ensures in
    let tables = c.in_ok-tables.ensures.are ∙ ap (λ (t : Table). insert book.tables name t) (c.empty-table.ensures ∙ ap (λ (z : ℤ). record { columns = c.args.columns; entry = z; rows = empty }) at) in
    let schema = c.in_ok-schema.ensures.are ∙ (λ i. insert book.schema (at i) (c.in_ok-row.ensures i)) in
    mapped c.changed.result (λ shelf is. is ∙ (λ i. emptied (with_maps book (tables i) (schema i)))) c.changed.ensures
