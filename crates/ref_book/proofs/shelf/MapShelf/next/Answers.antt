use Rattle.std.proofs.Common.{ℤ, List, map, reverse, rules, sym, ap, ◌∙◌, int_cmp}
use Rattle.std.proofs.lemmas.Int.{to_z-of_z}
use Rattle.std.specs.Prelude.{FitsSigned}
use Rattle.std.specs.Int.{w64}
use Rattle.book_model.specs.Book.{Row, next_of}
use Rattle.ref_book.proofs.Maps.{keyed}
use Rattle.ref_book.proofs.shelf.MapShelf.next.Goals as goal

pub returns : goal.returns
returns c =
    let fits : FitsSigned w64 c.next_entry.result = search rules in
    to_z-of_z w64 c.next_entry.result fits ∙ c.next_entry.ensures ∙ ap (λ (l : List (ℤ × Row)). next_of (reverse (map (λ (e : ℤ × Row). e.0) l))) c.deref.ensures.value
    ∙ ap (λ (keys : List ℤ). next_of (reverse keys)) (sym (keyed int_cmp c.args.self.now.schema.items c.args.self.now.schema_rises))
