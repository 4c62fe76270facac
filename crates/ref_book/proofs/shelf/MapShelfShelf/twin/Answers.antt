use Rattle.std.proofs.Common.{T, List, ℤ, sym, subst, ◌∙◌, nat_cmp, int_cmp}
use Rattle.std.specs.Cmp.Lexicographic.{slice_cmp}
use Rattle.std.specs.FinMap.{is_sorted}
use Rattle.book_model.specs.Book.{Name, Row, Table}
use Rattle.ref_book.proofs.shelf.MapShelfShelf.twin.Goals as goal

pub invariant_of-result : goal.invariant_of-result
invariant_of-result c = record {
  tables_rise = subst (λ (l : List (Name × Table)). T (is_sorted (slice_cmp nat_cmp) l)) (sym (c.in_ok-tables.ensures ∙ c.deref.ensures.value)) c.args.self.now.tables_rise;
  schema_rises = subst (λ (l : List (ℤ × Row)). T (is_sorted int_cmp l)) (sym (c.in_ok-schema.ensures ∙ c.deref-2.ensures.value)) c.args.self.now.schema_rises;
  usable_least = c.args.self.now.usable_least;
  usable_most = c.args.self.now.usable_most;
}
