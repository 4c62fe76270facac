use Rattle.std.proofs.Common.{T, ap, sym, subst, ◌∙◌, List, ℤ, int_cmp}
use Rattle.std.specs.FinMap.{from_sorted, is_sorted}
use Rattle.book_model.specs.Book.{Row}
use Rattle.ref_book.specs.Shelf.{book_of}
use Rattle.ref_book.specs.Steps.{emptied}
use Rattle.ref_book.proofs.Becomes.{mapped, with_maps}
use Rattle.ref_book.proofs.shelf.MapShelf.with_kept.Goals as goal

pub changed-requires-clause-schema : goal.changed-requires-clause-schema
changed-requires-clause-schema c =
    subst (λ (l : List (ℤ × Row)). T (is_sorted int_cmp l)) (sym (c.in_ok-schema.ensures ∙ c.deref.ensures.value)) c.args.self.now.schema_rises

pub returns : goal.returns
returns c =
    let book = book_of c.args.self.now in
    let schema = ap (λ (l : List (ℤ × Row)). from_sorted {R = int_cmp} l) (c.in_ok-schema.ensures ∙ c.deref.ensures.value) in
    mapped c.changed.result (λ shelf is. is ∙ (λ i. emptied (with_maps book (c.in_ok-tables.ensures.are i) (schema i)))) c.changed.ensures
