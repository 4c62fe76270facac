use Rattle.std.proofs.Common.{ℤ, ◌-◌, List, map, refl, ap, ◌∙◌}
use Rattle.std.specs.List.{sum_by}
use Rattle.tree_model.specs.Need.{need_of_rows}
use Rattle.book_model.specs.Book.{Name, Row, Table, need_of, need_of_map}
use Rattle.ref_book.specs.Shelf.{book_of}
use Rattle.ref_book.proofs.Needs.{sizes, book_needs, left_both}
use Rattle.ref_book.proofs.shelf.MapShelf.left.Goals as goal

pub returns : goal.returns
returns c =
    let s = c.args.self.now in
    let usable = s.numbers.usable in
    let rows = λ (l : List (ℤ × Row)). need_of_rows usable (sizes l) in
    let tables = λ (l : List (Name × Table)). sum_by (λ (t : Table). need_of_map usable t.rows) (map (λ (e : Name × Table). e.1) l) in
    left_both c.args.bound c.left_of_rows-rest.result c.left_of_tables.result (rows s.schema.items) (tables s.tables.items) (need_of (book_of s))
    (c.left_of_rows-rest.ensures ∙ ap (λ (l : List (ℤ × Row)). c.args.bound - rows l) c.deref.ensures.value)
    (c.left_of_tables.ensures ∙ ap (λ (l : List (Name × Table)). c.left_of_rows-rest.result - tables l) c.deref-2.ensures.value)
    (book_needs (book_of s) s.tables.items s.schema.items s.tables_rise s.schema_rises refl refl)
