-- What books may need.
use Rattle.std.proofs.Common.{◌≡◌, ℕ, ◌+◌, ◌-◌, ◌≤◌, ◌||◌, ℤ, T, false, ◌↔◌, List, [], ◌∷◌, map, sym, ap, ◌∙◌, Bool, nat_le, IsTrue, int_cmp, nat_cmp, length, take, drop, get_or, arith}
use Rattle.std.specs.List.{list_any, sum_by}
use Rattle.std.proofs.lemmas.List.{take_all}
use Rattle.std.proofs.lemmas.List.Folds.{list_any-from_Any, Any-from_list_any}
use Rattle.std.specs.declared.cmp.Ordering.{Ordering}
use Rattle.std.specs.declared.cmp.Ordering.TheVariants.{Less, Equal, Greater}
use Rattle.std.specs.Cmp.{int_cmp_total}
use Rattle.std.specs.Cmp.Lexicographic.{slice_cmp}
use Rattle.std.specs.FinMap.{FinMap, insert, entries, values, from_sorted, is_sorted, entries-insert}
use Rattle.std.specs.FinMap.Entries.{put, by_order}
use Rattle.tree_model.specs.Need.{need_of_rows}
use Rattle.book_model.specs.Book.{Name, Row, Table, Book, entry_row, with_table, use_of, need_of, need_of_map}
use Rattle.shell_model.specs.Cases.{too_many}
use Rattle.ref_shell.specs.Shelf.{passes}
use Rattle.ref_rows.specs.Roots.{roots, RootsOfEachSize}
use Rattle.ref_book.specs.Steps.{emptied}
use Rattle.ref_book.proofs.Maps.{valued}

abbrev pub sizes : List (ℤ × Row) → List ℕ
sizes es = map (λ (row : Row). row.size) (map (λ (e : ℤ × Row). e.1) es)

-- what sorted rows may need
pub rows_need : (usable : ℕ) (es : List (ℤ × Row)) → T (is_sorted int_cmp es) → need_of_map usable (from_sorted {R = int_cmp} es) ≡ need_of_rows usable (sizes es)
rows_need usable es h = ap (λ (l : List Row). need_of_rows usable (map (λ (row : Row). row.size) l)) (valued int_cmp es h)

-- and sorted tables with a schema
pub book_needs : (book : Book) (tables : List (Name × Table)) (schema : List (ℤ × Row)) → T (is_sorted (slice_cmp nat_cmp) tables) → T (is_sorted int_cmp schema) →
    book.tables ≡ from_sorted tables → book.schema ≡ from_sorted schema →
    need_of book ≡ need_of_rows book.usable (sizes schema) + sum_by (λ (t : Table). need_of_map book.usable t.rows) (map (λ (e : Name × Table). e.1) tables)
unfolding need_of
book_needs book tables schema ht hs t s =
    let left = ap (need_of_map book.usable) s ∙ rows_need book.usable schema hs in
    let right = ap values t ∙ valued (slice_cmp nat_cmp) tables ht in
    λ i. left i + sum_by (λ (t : Table). need_of_map book.usable t.rows) (right i)

-- rows that are as large
by_place : (o : Ordering) (at : ℤ) (r s : Row) (e : ℤ × Row) (es fs gs : List (ℤ × Row)) → r.size ≡ s.size → sizes fs ≡ sizes gs →
    sizes (by_order o ((at, r) ∷ e ∷ es) ((e.0, r) ∷ es) (e ∷ fs)) ≡ sizes (by_order o ((at, s) ∷ e ∷ es) ((e.0, s) ∷ es) (e ∷ gs))
by_place Less at r s e es fs gs same more = ap (λ (n : ℕ). n ∷ sizes (e ∷ es)) same
by_place Equal at r s e es fs gs same more = ap (λ (n : ℕ). n ∷ sizes es) same
by_place Greater at r s e es fs gs same more = ap (λ (l : List ℕ). e.1.size ∷ l) more

sizes_put : (at : ℤ) (r s : Row) → r.size ≡ s.size → (es : List (ℤ × Row)) → sizes (put int_cmp at r es) ≡ sizes (put int_cmp at s es)
sizes_put at r s same [] = ap (λ (n : ℕ). n ∷ []) same
sizes_put at r s same (e ∷ es) = by_place (int_cmp at e.0) at r s e es (put int_cmp at r es) (put int_cmp at s es) same (sizes_put at r s same es)

sizes_insert : (at : ℤ) (r s : Row) → r.size ≡ s.size → (m : FinMap int_cmp Row) → sizes (entries (insert m at r)) ≡ sizes (entries (insert m at s))
sizes_insert at r s same m = ap sizes (entries-insert int_cmp_total m at r) ∙ sizes_put at r s same (entries m) ∙ sym (ap sizes (entries-insert int_cmp_total m at s))

-- a table passes with one root as with another that makes its row as large
need_like : (book : Book) (name : Name) (columns : List Name) (r root : ℕ) → (entry_row name columns r).size ≡ (entry_row name columns root).size →
    need_of (with_table book name columns r) ≡ need_of (with_table book name columns root)
unfolding need_of
need_like book name columns r root same =
    ap (λ (l : List ℕ). need_of_rows book.usable l + sum_by (λ (t : Table). need_of_map book.usable t.rows) (values (with_table book name columns r).tables))
    (sizes_insert _ (entry_row name columns r) (entry_row name columns root) same book.schema)

abbrev pub passes_at : Book → Name → List Name → ℕ → Bool
passes_at book name columns root = passes book (with_table book name columns root)

pub some_root : RootsOfEachSize → (book : Book) (name : Name) (columns : List Name) (may : Bool) → may ≡ list_any (passes_at book name columns) roots →
    IsTrue may ↔ ((root : ℕ) × IsTrue (passes_at book name columns root))
some_root law book name columns may is = (
  λ yes. let found = Any-from_list_any (passes_at book name columns) roots (sym is ∙ yes) in (found.1, found.4),
  λ some.
      let l = law some.0 in
      let same : passes_at book name columns l.like ≡ passes_at book name columns some.0 =
      ap (λ (n : ℕ). nat_le (too_many book) (length book.unnamed + use_of book + n)) (need_like book name columns l.like some.0 (l.same name columns)) in
      is ∙ list_any-from_Any (passes_at book name columns) roots (l.among.0, l.like, l.among.1, l.among.2, same ∙ some.1),
)

-- the number of pages of a book is not asked
pub passes_changed : (old changed book : Book) → changed ≡ emptied book → passes old changed ≡ passes old book
unfolding need_of
passes_changed old changed book is = ap (passes old) is

-- what is left when two sums are taken away, one after the other
pub left_both : (bound rest left a b need : ℕ) → rest ≡ bound - a → left ≡ rest - b → need ≡ a + b → left ≡ bound - need
left_both bound rest left a b need first then all = omega arith

-- the roots of a list one by one
pub any_rest : (p : ℕ → Bool) (roots : List ℕ) (d : ℕ) → 1 ≤ length roots → p (get_or roots 0 d) ≡ false → list_any p (take (length roots - 1) (drop 1 roots)) ≡ list_any p roots
any_rest p [] d some fails = absurd (omega arith)
any_rest p (x ∷ xs) d some fails =
    ap (list_any p) (take_all (length (x ∷ xs) - 1) xs (omega arith)) ∙ ap (λ (b : Bool). b || list_any p xs) (sym fails)
