-- What a book counts is what its trees count.
use Rattle.std.proofs.Common.{◌≡◌, ◌≢◌, ℕ, ◌+◌, ◌*◌, max, ℤ, ◌<ℤ◌, ◌≤ℤ◌, List, [], ◌∷◌, length, map, Option, Some, None, refl, sym, ap, ap₂, subst, ◌∙◌, arith}
use Rattle.std.specs.List.{AllByRecursion, AllZip, sum_by}
use Rattle.std.specs.Ordering.{nat_cmp, int_cmp}
use Rattle.std.specs.Cmp.{int_cmp_total}
use Rattle.std.proofs.lemmas.Cmp.{nat_list_cmp_total}
use Rattle.std.proofs.lemmas.List.{length-map, length-reverse}
use Rattle.std.specs.Cmp.Lexicographic.{slice_cmp}
use Rattle.std.proofs.lemmas.List.Sums.{sum_by_from}
use Rattle.std.proofs.lemmas.Bool.Decides.{nat_tests}
use Rattle.std.specs.FinMap as map
use Rattle.std.specs.FinMap.{FinMap, int_cmp-IsAntisymmetric, nat_cmp-IsAntisymmetric, slice_cmp-IsAntisymmetric}
use Rattle.page_list.specs.Pages.{Pages}
use Rattle.db_format.specs.Record.{IsRecord}
use Rattle.db_format.specs.Schema.{Table as Found, tables_in, NamesDiffer}
use Rattle.db_format.specs.declared.value.Value.{Value}
use Rattle.tree_model.specs.Tree.{Row as Stored, Tree, rowid, rows_of}
use Rattle.tree_model.specs.Whole.{IsWholeTree, below_all, first_page}
use Rattle.tree_model.specs.Need.{chain_pages, chains_pages, need_of_rows, need_of_trees, need, use_of as pages_in_use}
use Rattle.tree_model.specs.Laws.{Rises, RowsRise}
use Rattle.tree_laws.specs.Whole.{PagesAddUp}
use Rattle.book_model.specs.Book.{Name, Row, Table, Book, use_of, need_of_map, need_of}
use Rattle.book_model.specs.Pages.{entries_of, HasRows, AreTables, IsBookOf}
use Rattle.book_model.specs.Laws.{BookCounts}
use Rattle.book_model.proofs.SumLemmas.{KeysDiffer, sum_values}

-- ---- the rows of one tree

above_other : (low key : ℤ) → low <ℤ key → key ≢ low
above_other low key less same = grind (arith, less, same)

rows_apart : (columns : ℕ) (key last : ℤ) (stored : List Stored) (contents : List (List Value)) → key ≤ℤ last → Rises last stored
    → AllByRecursion (λ other. other.0 ≢ key) (entries_of columns stored contents)
rows_apart columns key last [] contents less rise = tt
rows_apart columns key last (row ∷ stored) [] less rise = tt
rows_apart columns key last (row ∷ stored) (values ∷ contents) less rise =
    let more : key <ℤ rowid row = grind (arith, less, rise.0) in
    (above_other key (rowid row) more, rows_apart columns key (rowid row) stored contents (grind (arith, more)) rise.1)

rows_differ : (columns : ℕ) (last : ℤ) (stored : List Stored) (contents : List (List Value)) → Rises last stored → KeysDiffer int_cmp (entries_of columns stored contents)
rows_differ columns last [] contents rise = tt
rows_differ columns last (row ∷ stored) [] rise = tt
rows_differ columns last (row ∷ stored) (values ∷ contents) rise =
    (rows_apart columns (rowid row) (rowid row) stored contents (grind arith) rise.1, rows_differ columns (rowid row) stored contents rise.1)

sizes_are : (columns : ℕ) (stored : List Stored) (contents : List (List Value)) → AllZip (λ row values. IsRecord row.payload values) stored contents
    → map (λ (row : Row). row.size) (map (λ (e : ℤ × Row). e.1) (entries_of columns stored contents)) ≡ map (λ row. length row.payload) stored
sizes_are columns [] [] each = refl
sizes_are columns [] (values ∷ contents) each = absurd each
sizes_are columns (row ∷ stored) [] each = absurd each
sizes_are columns (row ∷ stored) (values ∷ contents) each = ap (λ (l : List ℕ). length row.payload ∷ l) (sizes_are columns stored contents each.1)

abbrev sizes : List Row → List ℕ
sizes rows = map (λ row. row.size) rows

rows_need : (usable columns : ℕ) (last : ℤ) (stored : List Stored) (rows : FinMap int_cmp Row) → Rises last stored → HasRows columns stored rows
    → need_of_map usable rows ≡ need_of_rows usable (map (λ row. length row.payload) stored)
rows_need usable columns last stored rows rise has =
    let es : List (ℤ × Row) = entries_of columns stored has.contents in
    let differ = rows_differ columns last stored has.contents rise in
    let count = sum_values int_cmp (λ (l : List Row). length (sizes l)) (λ row. 1) (λ x xs. omega arith) int_cmp_total int_cmp-IsAntisymmetric es differ in
    let chains = sum_values int_cmp (λ (l : List Row). chains_pages usable (sizes l)) (λ row. chain_pages usable row.size) (λ x xs. refl) int_cmp_total int_cmp-IsAntisymmetric es differ in
    ap (need_of_map usable) has.is ∙ ap₂ (λ n c. 2 * max 1 n + c) count chains ∙ ap (need_of_rows usable) (sizes_are columns stored has.contents has.each)

-- ---- the tables

tables_apart : (name : Name) (entries : List Stored) (found : List (Option Found)) (trees : List Tree) (tables : List (Name × Table)) → AreTables entries found trees tables
    → AllByRecursion (λ other. other.create.name ≢ name) (tables_in found) → AllByRecursion (λ other. other.0 ≢ name) tables
tables_apart name [] [] [] [] are apart = tt
tables_apart name [] [] [] (t ∷ tables) are apart = absurd are
tables_apart name [] [] (tree ∷ trees) tables are apart = absurd are
tables_apart name [] (f ∷ found) trees tables are apart = absurd are
tables_apart name (entry ∷ entries) [] trees tables are apart = absurd are
tables_apart name (entry ∷ entries) (None ∷ found) trees tables are apart = tables_apart name entries found trees tables are apart
tables_apart name (entry ∷ entries) (Some f ∷ found) [] tables are apart = absurd are
tables_apart name (entry ∷ entries) (Some f ∷ found) (tree ∷ trees) [] are apart = absurd are
tables_apart name (entry ∷ entries) (Some f ∷ found) (tree ∷ trees) (t ∷ tables) are apart =
    (λ same. apart.0 (sym are.0.named ∙ same), tables_apart name entries found trees tables are.1 apart.1)

tables_differ : (entries : List Stored) (found : List (Option Found)) (trees : List Tree) (tables : List (Name × Table)) → AreTables entries found trees tables
    → NamesDiffer (tables_in found) → KeysDiffer (slice_cmp nat_cmp) tables
tables_differ [] [] [] [] are differ = tt
tables_differ [] [] [] (t ∷ tables) are differ = absurd are
tables_differ [] [] (tree ∷ trees) tables are differ = absurd are
tables_differ [] (f ∷ found) trees tables are differ = absurd are
tables_differ (entry ∷ entries) [] trees tables are differ = absurd are
tables_differ (entry ∷ entries) (None ∷ found) trees tables are differ = tables_differ entries found trees tables are differ
tables_differ (entry ∷ entries) (Some f ∷ found) [] tables are differ = absurd are
tables_differ (entry ∷ entries) (Some f ∷ found) (tree ∷ trees) [] are differ = absurd are
tables_differ (entry ∷ entries) (Some f ∷ found) (tree ∷ trees) (t ∷ tables) are differ =
    let P : Name → Type 0 = λ name. AllByRecursion (λ other. other.create.name ≢ name) (tables_in found) in
    (tables_apart t.0 entries found trees tables are.1 (subst P (sym are.0.named) differ.0), tables_differ entries found trees tables are.1 differ.1)

abbrev tables_need : ℕ → List Table → ℕ
tables_need usable tables = sum_by (λ table. need_of_map usable table.rows) tables

one_more : (usable : ℕ) (table : Table) (tables : List Table) → tables_need usable (table ∷ tables) ≡ need_of_map usable table.rows + tables_need usable tables
one_more usable table tables = omega (arith, sum_by_from (λ t. need_of_map usable t.rows) (0 + need_of_map usable table.rows) tables)

trees_need : RowsRise → (usable : ℕ) (pages : Pages) (roots : List ℕ) (entries : List Stored) (found : List (Option Found)) (trees : List Tree) (tables : List (Name × Table))
    → AllZip (IsWholeTree pages) roots trees → AreTables entries found trees tables → tables_need usable (map (λ t. t.1) tables) ≡ need_of_trees usable trees
trees_need rises usable pages roots [] [] [] [] whole are = refl
trees_need rises usable pages roots [] [] [] (t ∷ tables) whole are = absurd are
trees_need rises usable pages roots [] [] (tree ∷ trees) tables whole are = absurd are
trees_need rises usable pages roots [] (f ∷ found) trees tables whole are = absurd are
trees_need rises usable pages roots (entry ∷ entries) [] trees tables whole are = absurd are
trees_need rises usable pages roots (entry ∷ entries) (None ∷ found) trees tables whole are = trees_need rises usable pages roots entries found trees tables whole are
trees_need rises usable pages roots (entry ∷ entries) (Some f ∷ found) [] tables whole are = absurd are
trees_need rises usable pages roots (entry ∷ entries) (Some f ∷ found) (tree ∷ trees) [] whole are = absurd are
trees_need rises usable pages [] (entry ∷ entries) (Some f ∷ found) (tree ∷ trees) (t ∷ tables) whole are = absurd whole
trees_need rises usable pages (root ∷ roots) (entry ∷ entries) (Some f ∷ found) (tree ∷ trees) (t ∷ tables) whole are =
    one_more usable t.1 (map (λ t. t.1) tables)
    ∙ ap₂ (λ a b. a + b) (rows_need usable (length f.create.columns) below_all (rows_of tree) t.1.rows (rises pages root tree whole.0) are.0.rows)
    (trees_need rises usable pages roots entries found trees tables whole.1 are.1)

none_first : (roots : List ℕ) → length (first_page (1 ∷ roots)) ≡ 0
none_first roots = grind (arith, nat_tests)

book_need : RowsRise → (pages : Pages) (book : Book) → (is : IsBookOf pages book)
    → need_of book ≡ need book.usable (1 ∷ map (λ table. table.root) (tables_in is.found)) (is.schema ∷ is.trees)
unfolding need_of
book_need rises pages book is =
    let roots : List ℕ = map (λ table. table.root) (tables_in is.found) in
    let whole = is.whole.whole.each_tree in
    let schema = rows_need book.usable 5 below_all (rows_of is.schema) book.schema (rises pages 1 is.schema whole.0) is.schema_is in
    let differ = tables_differ (rows_of is.schema) is.found is.trees is.tables is.each is.whole.once in
    let made = sum_values (slice_cmp nat_cmp) (tables_need book.usable) (λ table. need_of_map book.usable table.rows) (one_more book.usable) nat_list_cmp_total
    (slice_cmp-IsAntisymmetric nat_cmp-IsAntisymmetric) is.tables differ in
    let tables = trees_need rises book.usable pages roots (rows_of is.schema) is.found is.trees is.tables whole.1 is.each in
    let summed = ap (λ m. tables_need book.usable (map.values m)) is.tables_are ∙ made ∙ tables in
    omega (arith, schema, summed, none_first roots)

-- ---- the pages

book_use : PagesAddUp → (pages : Pages) (book : Book) → (is : IsBookOf pages book)
    → use_of book ≡ pages_in_use (1 ∷ map (λ table. table.root) (tables_in is.found)) (is.schema ∷ is.trees)
book_use add_up pages book is =
    let roots : List ℕ = 1 ∷ map (λ table. table.root) (tables_in is.found) in
    let all = add_up pages roots (is.schema ∷ is.trees) is.trunks is.whole.whole in
    let unnamed = simp (length-map, length-reverse) at (ap (λ (l : List (ℕ × List ℕ)). length l) is.unnamed_are) in
    omega (arith, all, unnamed, is.pages_are, is.free_are)

pub book_counts : RowsRise → PagesAddUp → BookCounts
book_counts rises add_up = record { in_use = book_use add_up; needed = book_need rises }
