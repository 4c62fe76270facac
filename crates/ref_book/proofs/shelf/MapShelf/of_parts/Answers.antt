use Rattle.std.proofs.Common.{ap, ◌∙◌, List, ℤ, nat_cmp, int_cmp}
use Rattle.std.specs.Cmp.Lexicographic.{slice_cmp}
use Rattle.std.specs.FinMap.{from_sorted, from_entries, entries}
use Rattle.book_model.specs.Book.{Name, Row, Table}
use Rattle.book_model.specs.Pages.{entries_of, foreign_in, once}
use Rattle.ref_book.proofs.Loaded.{entries_rise, map_of_entries}
use Rattle.ref_book.proofs.shelf.MapShelf.of_parts.Goals as goal

pub invariant_of-result : goal.invariant_of-result
invariant_of-result c = record {
  tables_rise = entries_rise (slice_cmp nat_cmp) (from_entries c.args.listed.now) c.in_ok-tables.tables.items c.in_ok-tables.ensures;
  schema_rises = entries_rise int_cmp (from_entries (entries_of 5 c.deref-3.result.now c.deref-4.result.now)) c.in_ok-rows.rows.items c.in_ok-rows.ensures;
  usable_least = c.of_pages.ensures.least;
  usable_most = c.of_pages.ensures.most;
}

pub returns : goal.returns
returns c = record {
  tables_are = ap (λ (l : List (Name × Table)). from_sorted l) c.in_ok-tables.ensures ∙ map_of_entries (slice_cmp nat_cmp) (from_entries c.args.listed.now);
  foreign_are = c.in_ok-foreign.ensures ∙ (λ i. once (foreign_in (c.deref.ensures.value i) (c.deref-2.ensures.value i)));
  schema_is =
      ap (λ (l : List (ℤ × Row)). from_sorted l) (c.in_ok-rows.ensures ∙ (λ i. entries (from_entries {R = int_cmp} (entries_of 5 (c.deref-3.ensures.value i) (c.deref-4.ensures.value i)))))
      ∙ map_of_entries int_cmp (from_entries (entries_of 5 c.args.schema.now.rows.items c.args.schema.now.records.items));
  unnamed_are = c.in_ok-unnamed.ensures;
  numbers = c.of_pages.ensures.are;
}
