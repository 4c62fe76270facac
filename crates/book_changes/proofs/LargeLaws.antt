-- Numbers of pages that are too many, within what the trees of a book may need.
use Rattle.std.proofs.Common.{◌≡◌, ◌≢◌, ℕ, suc, ◌+◌, false, ℤ, List, [], ◌∷◌, ◌++◌, length, map, Some, refl, sym, ap, subst, ◌∙◌, arith}
use Rattle.std.proofs.lemmas.Cmp.{nat_list_cmp_total}
use Rattle.std.proofs.lemmas.List.{length-map, length-reverse}
use Rattle.std.specs.List.{AllByRecursion}
use Rattle.std.specs.Ordering.{nat_cmp, int_cmp}
use Rattle.std.specs.Cmp.Lexicographic.{slice_cmp}
use Rattle.std.specs.FinMap as map
use Rattle.std.specs.FinMap.{FinMap, nat_cmp-IsAntisymmetric, slice_cmp-IsAntisymmetric}
use Rattle.page_list.specs.Pages.{Pages}
use Rattle.page_list.specs.Freelist.{Trunk, IsFreelist, free_pages, first_trunk}
use Rattle.page_list.proofs.ChainLemmas.{among-here, among-front}
use Rattle.db_format.specs.Record.{OneRecord}
use Rattle.db_format.specs.Schema.{Table as Found, tables_in}
use Rattle.tree_model.specs.Tree.{Tree, rows_of}
use Rattle.tree_model.specs.Whole.{IsWholeFor, below_all, named_pages}
use Rattle.tree_model.specs.Laws.{RowsRise, shown}
use Rattle.tree_model.specs.Need.{need_of_rows, need_of_trees, use_of as pages_in_use}
use Rattle.tree_laws.specs.Front.{FrontKept}
use Rattle.tree_laws.specs.Whole.{missing_in, PagesAddUp, RootRemoved}
use Rattle.tree_put.specs.Large.{need_put}
use Rattle.tree_removed.specs.Large.{need_without}
use Rattle.book_model.specs.Book.{Name, Row, Table, Book, table_at, with_row, without_row, with_table, without_table, entry_row, is_taken, written_row, next_entry, need_of_map, use_of}
use Rattle.book_model.specs.Pages.{HasRows, IsBookOf}
use Rattle.book_model.specs.Laws.{BookCounts}
use Rattle.book_model.proofs.SumLemmas.{KeysDiffer}
use Rattle.book_changes.specs.Rows.{LargePut, LargeRemoval}
use Rattle.book_changes.specs.Tables.{LargeRoot, LargeEntry, LargeDrop}
use Rattle.book_changes.proofs.TableLemmas.{TableAt, table_at as place_of, as_many, keys_apart, map_replaced, map_removed}
use Rattle.book_changes.proofs.ChangeLemmas.{roots_in, roots_append, whole_at, whole_with, key_at, table_has}
use Rattle.book_changes.proofs.DropLemmas.{row_at, roots_long}
use Rattle.book_changes.proofs.MoveLemmas.{none_first}
use Rattle.book_changes.proofs.EntryLemmas.{none_taken, other_names}
use Rattle.book_changes.proofs.MakeLemmas.{beside}
use Rattle.book_changes.proofs.MakeLaw.{root_adds}
use Rattle.book_changes.proofs.NeedLemmas.{lengths, lengths_are, rows_need, put_need, without_need, empty_need, trees_append, table_need, tables_differ, need_parts, need_more, need_is}

-- what the book counts, by its trees
record Counted (old : Pages) (book : Book) (is : IsBookOf old book) : Type 0 where
  missing : length book.unnamed ≡ length (missing_in (named_pages (1 ∷ roots_in is.found) (is.schema ∷ is.trees) is.trunks) old.size)
  in_use : use_of book ≡ pages_in_use (1 ∷ roots_in is.found) (is.schema ∷ is.trees)
  schema : need_of_map book.usable book.schema ≡ need_of_rows book.usable (lengths (map shown (rows_of is.schema)))
  tables : table_need book.usable (map.values book.tables) ≡ need_of_trees book.usable is.trees

counted : BookCounts → RowsRise → (old : Pages) (book : Book) (is : IsBookOf old book) → Counted old book is
counted counts rises old book is =
    let schema = rows_need book.usable 5 below_all (rows_of is.schema) book.schema (rises old 1 is.schema is.whole.whole.each_tree.0) is.schema_is in
    let whole = counts.needed old book is in
    let sizes = ap (need_of_rows book.usable) (lengths_are (rows_of is.schema)) in
    record {
      missing = simp (length-map, length-reverse) at (ap (λ (l : List (ℕ × List ℕ)). length l) is.unnamed_are);
      in_use = counts.in_use old book is;
      schema = schema;
      tables = omega (arith, whole, need_is book, schema, sizes, none_first (roots_in is.found));
    }

-- the same with a table at its place
record CountedAt (old : Pages) (book : Book) (is : IsBookOf old book) (one : Found) (at : TableAt (rows_of is.schema) is.found is.trees is.tables one) : Type 0 where
  rest : ℕ
  trees : need_of_trees book.usable at.t + need_of_trees book.usable at.t' ≡ rest
  replaced : (table : Table) → table_need book.usable (map.values (map.insert book.tables one.create.name table)) ≡ need_of_map book.usable table.rows + rest
  removed : table_need book.usable (map.values (map.remove book.tables one.create.name)) ≡ rest
  missing : length book.unnamed ≡ length (missing_in (named_pages (1 ∷ roots_in is.found) ((is.schema ∷ at.t) ++ at.tree ∷ at.t') is.trunks) old.size)
  in_use : use_of book ≡ pages_in_use (1 ∷ roots_in is.found) ((is.schema ∷ at.t) ++ at.tree ∷ at.t')

counted_at : BookCounts → RowsRise → (old : Pages) (book : Book) (is : IsBookOf old book) (one : Found) (at : TableAt (rows_of is.schema) is.found is.trees is.tables one) → CountedAt old book is one at
counted_at counts rises old book is one at =
    let all = counted counts rises old book is in
    let u : ℕ = book.usable in
    let name : Name = one.create.name in
    let R = slice_cmp nat_cmp in
    let same = slice_cmp-IsAntisymmetric nat_cmp-IsAntisymmetric in
    let apart = key_at old book is one at in
    let tables_are : book.tables ≡ map.from_entries {R = R} (at.b ++ (name, at.table) ∷ at.b') = is.tables_are ∙ ap (λ (l : List (Name × Table)). map.from_entries {R = R} l) at.tables_are in
    let differ = subst (λ l. KeysDiffer (slice_cmp nat_cmp) l) at.tables_are (tables_differ (rows_of is.schema) is.found is.trees is.tables is.each is.whole.once) in
    let parts = need_parts u name at.table at.b at.b' differ in
    let here = ap (λ m. table_need u (map.values m)) tables_are ∙ parts at.table in
    let one_tree = rows_need u (length one.create.columns) below_all (rows_of at.tree) at.table.rows (rises old one.root at.tree (whole_at old book is one at)) at.is.rows in
    let lens = ap (need_of_rows u) (lengths_are (rows_of at.tree)) in
    let split = ap (need_of_trees u) at.trees_are ∙ trees_append u at.t (at.tree ∷ at.t') in
    record {
      rest = table_need u (map.values (map.from_entries {R = R} (at.b ++ at.b')));
      trees = omega (arith, all.tables, here, one_tree, lens, split);
      replaced = λ table. ap (λ m. table_need u (map.values (map.insert m name table))) tables_are
          ∙ ap (λ m. table_need u (map.values m)) (sym (map_replaced R nat_list_cmp_total same name at.table table at.b at.b' apart.0)) ∙ parts table;
      removed = ap (λ m. table_need u (map.values (map.remove m name))) tables_are
          ∙ ap (λ m. table_need u (map.values m)) (sym (map_removed R nat_list_cmp_total same name at.table at.b at.b' apart.0 apart.1));
      missing = all.missing ∙ ap (λ (t : List Tree). length (missing_in (named_pages (1 ∷ roots_in is.found) (is.schema ∷ t) is.trunks) old.size)) at.trees_are;
      in_use = all.in_use ∙ ap (λ (t : List Tree). pages_in_use (1 ∷ roots_in is.found) (is.schema ∷ t)) at.trees_are;
    }

pub large_put : BookCounts → RowsRise → LargePut
large_put counts rises page_size pages old book is one key values payload among valid above large =
    let at = place_of (rows_of is.schema) is.found is.trees is.tables one is.each among.0 among.1 among.2 in
    let tree = whole_at old book is one at in
    let u : ℕ = book.usable in
    let columns : ℕ = length one.create.columns in
    let roots : List ℕ = 1 ∷ roots_in is.found in
    let name : Name = one.create.name in
    let count = counted_at counts rises old book is one at in
    let all = counted counts rises old book is in
    let H : Table → Type 0 = λ t. HasRows columns (rows_of at.tree) t.rows in
    let has : HasRows columns (rows_of at.tree) (table_at book name).rows = subst H (sym (table_has old book is one at)) at.is.rows in
    let rows : FinMap int_cmp Row = map.insert (table_at book name).rows key (written_row values) in
    let table : Table = record (table_at book name) { rows = rows } in
    let put = put_need u columns below_all (rows_of at.tree) (table_at book name).rows key payload values (rises old one.root at.tree tree) has above valid.is_record valid.full valid.size in
    let few = large.within roots (is.schema ∷ at.t) at.t' at.tree is.trunks (whole_with old book is one at) tree.rooted in
    let within = ap (λ v. need_put v roots (is.schema ∷ at.t) at.tree at.t' key payload) is.usable_is in
    let lens = ap (need_of_rows u) (lengths_are (rows_of is.schema)) in
    omega (arith, few, within, put, count.trees, count.replaced table, count.missing, count.in_use, all.schema, lens, need_is (with_row book name key values), none_first (roots_in is.found))

pub large_removal : BookCounts → RowsRise → LargeRemoval
large_removal counts rises page_size pages old book is one key among large =
    let at = place_of (rows_of is.schema) is.found is.trees is.tables one is.each among.0 among.1 among.2 in
    let tree = whole_at old book is one at in
    let u : ℕ = book.usable in
    let columns : ℕ = length one.create.columns in
    let roots : List ℕ = 1 ∷ roots_in is.found in
    let name : Name = one.create.name in
    let count = counted_at counts rises old book is one at in
    let all = counted counts rises old book is in
    let H : Table → Type 0 = λ t. HasRows columns (rows_of at.tree) t.rows in
    let has : HasRows columns (rows_of at.tree) (table_at book name).rows = subst H (sym (table_has old book is one at)) at.is.rows in
    let rows : FinMap int_cmp Row = map.remove (table_at book name).rows key in
    let table : Table = record (table_at book name) { rows = rows } in
    let left = without_need u columns below_all (rows_of at.tree) (table_at book name).rows key (rises old one.root at.tree tree) has in
    let few = large.within roots (is.schema ∷ at.t) at.t' at.tree is.trunks (whole_with old book is one at) tree.rooted in
    let within = ap (λ v. need_without v roots (is.schema ∷ at.t) at.tree at.t' key) is.usable_is in
    let lens = ap (need_of_rows u) (lengths_are (rows_of is.schema)) in
    omega (arith, few, within, left, count.trees, count.replaced table, count.missing, count.in_use, all.schema, lens, need_is (without_row book name key), none_first (roots_in is.found))

-- no plain table has a name that is not taken
apart_from : OneRecord → RowsRise → (old : Pages) (book : Book) (is : IsBookOf old book) (name : Name) → is_taken book name ≡ false → AllByRecursion (λ (x : Name × Table). x.0 ≢ name) is.tables
apart_from one rises old book is name taken =
    let none = none_taken one name book below_all (rows_of is.schema) is.rows (rises old 1 is.schema is.whole.whole.each_tree.0) is.schema_is is.whole.schema_rows is.whole.five taken in
    keys_apart name (rows_of is.schema) is.found is.trees is.tables is.each (other_names old.size is.rows is.rows is.found name is.whole.plain none)

-- a freelist without a first trunk is empty
none_free : (pages : Pages) (trunks : List Trunk) → IsFreelist pages trunks → first_trunk pages ≡ 0 → length (free_pages trunks) ≡ 0
none_free pages [] is none = refl
none_free pages (trunk ∷ more) is none =
    let there = is.within trunk.number (among-front trunk.number (trunk.number ∷ trunk.leaves) (free_pages more) (among-here trunk.number trunk.leaves)) in
    absurd (omega (arith, there.1, is.linked.0, none))

pub large_root : BookCounts → RowsRise → PagesAddUp → OneRecord → LargeRoot
large_root counts rises add_up one old book name columns number is taken none =
    let u : ℕ = book.usable in
    let all = counted counts rises old book is in
    let table : Table = record { columns = columns; entry = next_entry book; rows = map.empty } in
    let more = ap (λ m. table_need u (map.values (map.insert m name table))) is.tables_are
    ∙ need_more u name table is.tables (tables_differ (rows_of is.schema) is.found is.trees is.tables is.each is.whole.once) (apart_from one rises old book is name taken)
    ∙ ap (λ m. need_of_map u table.rows + table_need u (map.values m)) (sym is.tables_are) in
    let sum = add_up old (1 ∷ roots_in is.found) (is.schema ∷ is.trees) is.trunks is.whole.whole in
    omega (arith, sum, none_free old is.trunks is.whole.whole.freelist none, more, empty_need u, all.missing, all.in_use, need_is (with_table book name columns number))

pub large_entry : BookCounts → RowsRise → PagesAddUp → RootRemoved → FrontKept → OneRecord → LargeEntry
large_entry counts rises add_up removed kept one page_size pages old mid book name columns number payload is taken entry above adds large =
    let u : ℕ = book.usable in
    let key : ℤ = next_entry book in
    let roots : List ℕ = roots_in is.found in
    let all = counted counts rises old book is in
    let whole = is.whole.whole in
    let added = root_adds kept old mid number adds (1 ∷ roots) (is.schema ∷ is.trees) is.trunks whole in
    let left = beside add_up removed old mid number roots is.schema is.trees is.trunks
    (roots_long (tables_in is.found) ∙ as_many (rows_of is.schema) is.found is.trees is.tables is.each) added in
    let few = large.within (1 ∷ roots) [] is.trees is.schema added.trunks' left.whole whole.each_tree.0.rooted in
    let table : Table = record { columns = columns; entry = key; rows = map.empty } in
    let more = ap (λ m. table_need u (map.values (map.insert m name table))) is.tables_are
    ∙ need_more u name table is.tables (tables_differ (rows_of is.schema) is.found is.trees is.tables is.each is.whole.once) (apart_from one rises old book is name taken)
    ∙ ap (λ m. need_of_map u table.rows + table_need u (map.values m)) (sym is.tables_are) in
    let put = put_need u 5 below_all (rows_of is.schema) book.schema key payload (entry_row name columns number).values (rises old 1 is.schema whole.each_tree.0) is.schema_is above entry.is_record refl entry.size in
    let within = ap (λ v. need_put v (1 ∷ roots) [] is.schema is.trees key payload) (is.usable_is ∙ sym added.frame.usable) in
    omega (arith, few, within, put, more, empty_need u, left.missing, all.missing, all.in_use, all.tables, need_is (with_table book name columns number), none_first roots)

pub large_drop : BookCounts → RowsRise → PagesAddUp → RootRemoved → LargeDrop
large_drop counts rises add_up removed page_size pages old book is one among large =
    let at = place_of (rows_of is.schema) is.found is.trees is.tables one is.each among.0 among.1 among.2 in
    let u : ℕ = book.usable in
    let name : Name = one.create.name in
    let key : ℤ = (table_at book name).entry in
    let count = counted_at counts rises old book is one at in
    let all = counted counts rises old book is in
    let front : List ℕ = roots_in at.f in
    let back : List ℕ = roots_in at.f' in
    let trees : List Tree = at.t ++ at.tree ∷ at.t' in
    let roots_are : roots_in is.found ≡ front ++ one.root ∷ back = ap roots_in at.found_are ∙ roots_append at.f (Some one ∷ at.f') in
    let W : List ℕ → List Tree → Type 0 = λ r t. IsWholeFor old (1 ∷ r) (is.schema ∷ t) is.trunks in
    let whole = subst (λ r. W r trees) roots_are (subst (W (roots_in is.found)) at.trees_are is.whole.whole) in
    let least = (row_at old book is one at).least in
    let left = (removed old (1 ∷ front) back one.root (is.schema ∷ at.t) at.t' at.tree is.trunks
    (ap suc (roots_long (tables_in at.f) ∙ as_many at.e at.f at.t at.b at.front)) (λ same. omega (arith, least, same)) whole).0 in
    let few = large.within (1 ∷ (front ++ back)) [] (at.t ++ at.t') is.schema is.trunks left whole.each_tree.0.rooted in
    let sum = add_up old (1 ∷ roots_in is.found) (is.schema ∷ is.trees) is.trunks is.whole.whole in
    let rest = add_up old (1 ∷ (front ++ back)) (is.schema ∷ (at.t ++ at.t')) is.trunks left in
    let out = without_need u 5 below_all (rows_of is.schema) book.schema key (rises old 1 is.schema is.whole.whole.each_tree.0) is.schema_is in
    let within = ap (λ v. need_without v (1 ∷ (front ++ back)) [] is.schema (at.t ++ at.t') key) is.usable_is in
    omega (arith, few, within, sum, rest, out, trees_append u at.t at.t', count.trees, count.removed, all.missing, all.in_use, need_is (without_table book name), none_first (front ++ back))
