-- What the trees of a book may need after a change, from what they may need before.
use Rattle.std.proofs.Common.{◌≡◌, ◌≢◌, ℕ, ◌+◌, Bool, true, false, if◌then◌else◌, ℤ, negsuc, ◌<ℤ◌, int_le, List, [], ◌∷◌, ◌++◌, length, map, Option, Some, None, refl, sym, ap, subst, ◌∙◌, arith}
use Rattle.std.proofs.lemmas.Cmp.{nat_list_cmp_total}
use Rattle.std.proofs.lemmas.List.Sums.{sum_by_from}
use Rattle.std.specs.List.{AllByRecursion, AllZip, sum_by}
use Rattle.std.specs.Ordering.{nat_cmp, int_cmp}
use Rattle.std.specs.Cmp.Lexicographic.{slice_cmp}
use Rattle.std.specs.FinMap as map
use Rattle.std.specs.FinMap.{FinMap, nat_cmp-IsAntisymmetric, slice_cmp-IsAntisymmetric}
use Rattle.db_format.specs.Record.{IsRecord}
use Rattle.db_format.specs.Schema.{Table as Found, tables_in, NamesDiffer}
use Rattle.db_format.specs.declared.value.Value.{Value}
use Rattle.tree_model.specs.Tree.{Row as Stored, Tree}
use Rattle.tree_model.specs.Laws.{Rises, shown}
use Rattle.tree_model.specs.Need.{need_of_rows, need_of_trees}
use Rattle.tree_model.proofs.IntLemmas.{is_not_le, lt_trans_ℤ}
use Rattle.tree_put.specs.Keeps.{put_shown}
use Rattle.tree_removed.specs.Keeps.{without_shown}
use Rattle.book_model.specs.Size.{record_size}
use Rattle.book_model.specs.Book.{Name, Row, Table, Book, written_row, need_of_map, need_of}
use Rattle.book_model.specs.Pages.{entries_of, HasRows, AreTables}
use Rattle.book_model.proofs.SumLemmas.{KeysDiffer, sum_values}
use Rattle.book_changes.proofs.RowLemmas.{Shown, ShownRises, rises_shown, rows_put, rows_without}
use Rattle.book_changes.proofs.TableLemmas.{all_append, all_at, keys_apart}
use Rattle.book_changes.proofs.EntryLemmas.{entries_are, any_row}

-- ---- one tree

abbrev pub lengths : Shown → List ℕ
lengths list = map (λ (s : ℤ × List ℕ). length s.1) list

sizes_are : (columns : ℕ) (stored : List Stored) (contents : List (List Value)) → AllZip (λ row values. IsRecord row.payload values) stored contents
    → map (λ (row : Row). row.size) (map (λ (e : ℤ × Row). e.1) (entries_of columns stored contents)) ≡ lengths (map shown stored)
sizes_are columns [] [] each = refl
sizes_are columns [] (values ∷ contents) each = absurd each
sizes_are columns (row ∷ stored) [] each = absurd each
sizes_are columns (row ∷ stored) (values ∷ contents) each = ap (λ (l : List ℕ). length row.payload ∷ l) (sizes_are columns stored contents each.1)

pub rows_need : (usable columns : ℕ) (last : ℤ) (stored : List Stored) (rows : FinMap int_cmp Row) → Rises last stored → HasRows columns stored rows
    → need_of_map usable rows ≡ need_of_rows usable (lengths (map shown stored))
rows_need usable columns last stored rows rise has =
    ap (λ (es : List (ℤ × Row)). need_of_rows usable (map (λ (row : Row). row.size) (map (λ (e : ℤ × Row). e.1) es))) (entries_are columns last stored rows rise has)
    ∙ ap (need_of_rows usable) (sizes_are columns stored has.contents has.each)

-- rows that show a list
abbrev rows_showing : Shown → List Stored
rows_showing list = map (λ (s : ℤ × List ℕ). any_row s.0 s.1) list

showing : (list : Shown) → map shown (rows_showing list) ≡ list
showing [] = refl
showing (s ∷ list) = ap (λ (l : Shown). s ∷ l) (showing list)

showing_rises : (last : ℤ) (list : Shown) → ShownRises last list → Rises last (rows_showing list)
showing_rises last [] rise = tt
showing_rises last (s ∷ list) rise = (rise.0, showing_rises s.0 list rise.1)

rises_from : (low last : ℤ) (list : Shown) → low <ℤ last → ShownRises last list → ShownRises low list
rises_from low last [] less rise = tt
rises_from low last (s ∷ list) less rise = (lt_trans_ℤ low last s.0 less rise.0, rise.1)

put_rises : (last : ℤ) (s : ℤ × List ℕ) (list : Shown) → last <ℤ s.0 → ShownRises last list → ShownRises last (put_shown s list)
put_rises last s [] above rise = (above, tt)
put_rises last s (r ∷ list) above rise = by (int_le s.0 r.0) (int_le r.0 s.0) refl refl (λ less. put_rises r.0 s list less rise.1)
  where
    by : (a b : Bool) → int_le s.0 r.0 ≡ a → int_le r.0 s.0 ≡ b → (r.0 <ℤ s.0 → ShownRises r.0 (put_shown s list)) → ShownRises last (if a then (if b then s ∷ list else s ∷ r ∷ list) else r ∷ put_shown s list)
    by true true p q rest =
        let same : r.0 ≡ s.0 = grind (arith, p, q) in
        (above, subst (λ k. ShownRises k list) same rise.1)
    by true false p q rest = (above, (is_not_le r.0 s.0 q, rise.1))
    by false b p q rest = (rise.0, rest (is_not_le s.0 r.0 p))

without_rises : (last key : ℤ) (list : Shown) → ShownRises last list → ShownRises last (without_shown key list)
without_rises last key [] rise = tt
without_rises last key (r ∷ list) rise = by (int_le key r.0) (int_le r.0 key) (without_rises r.0 key list rise.1)
  where
    by : (a b : Bool) → ShownRises r.0 (without_shown key list) → ShownRises last (if a then (if b then list else r ∷ list) else r ∷ without_shown key list)
    by true true rest = rises_from last r.0 list rise.0 rise.1
    by true false rest = rise
    by false b rest = (rise.0, rest)

pub put_need : (usable columns : ℕ) (last : ℤ) (stored : List Stored) (rows : FinMap int_cmp Row) (key : ℤ) (payload : List ℕ) (values : List Value) → Rises last stored → HasRows columns stored rows
    → last <ℤ key → IsRecord payload values → length values ≡ columns → length payload ≡ record_size values
    → need_of_map usable (map.insert rows key (written_row values)) ≡ need_of_rows usable (lengths (put_shown (key, payload) (map shown stored)))
put_need usable columns last stored rows key payload values rise has above is full size =
    let list : Shown = put_shown (key, payload) (map shown stored) in
    rows_need usable columns last (rows_showing list) (map.insert rows key (written_row values))
    (showing_rises last list (put_rises last (key, payload) (map shown stored) above (rises_shown last stored rise)))
    (rows_put columns stored (rows_showing list) rows key payload values is full size (showing list) has)
    ∙ ap (λ (l : Shown). need_of_rows usable (lengths l)) (showing list)

pub without_need : (usable columns : ℕ) (last : ℤ) (stored : List Stored) (rows : FinMap int_cmp Row) (key : ℤ) → Rises last stored → HasRows columns stored rows
    → need_of_map usable (map.remove rows key) ≡ need_of_rows usable (lengths (without_shown key (map shown stored)))
without_need usable columns last stored rows key rise has =
    let list : Shown = without_shown key (map shown stored) in
    rows_need usable columns last (rows_showing list) (map.remove rows key) (showing_rises last list (without_rises last key (map shown stored) (rises_shown last stored rise)))
    (rows_without columns last stored (rows_showing list) rows key rise (showing list) has)
    ∙ ap (λ (l : Shown). need_of_rows usable (lengths l)) (showing list)

pub empty_need : (usable : ℕ) → need_of_map usable map.empty ≡ 2
empty_need usable = rows_need usable 0 (negsuc 0) [] map.empty tt (record { contents = []; each = tt; is = refl })

pub trees_append : (usable : ℕ) (xs ys : List Tree) → need_of_trees usable (xs ++ ys) ≡ need_of_trees usable xs + need_of_trees usable ys
trees_append usable [] ys = omega arith
trees_append usable (x ∷ xs) ys = omega (arith, trees_append usable xs ys)

-- the lengths of payloads, by row and as they are shown
pub lengths_are : (stored : List Stored) → map (λ (row : Stored). length row.payload) stored ≡ lengths (map shown stored)
lengths_are [] = refl
lengths_are (row ∷ stored) = ap (λ (l : List ℕ). length row.payload ∷ l) (lengths_are stored)

-- ---- the tables

abbrev Tables : Type 0
Tables = List (Name × Table)

abbrev pub table_need : ℕ → List Table → ℕ
table_need usable tables = sum_by (λ (table : Table). need_of_map usable table.rows) tables

abbrev values_of : Tables → List Table
values_of tables = map (λ (x : Name × Table). x.1) tables

one_more : (usable : ℕ) (table : Table) (tables : List Table) → table_need usable (table ∷ tables) ≡ need_of_map usable table.rows + table_need usable tables
one_more usable table tables = omega (arith, sum_by_from (λ (t : Table). need_of_map usable t.rows) (0 + need_of_map usable table.rows) tables)

need_between : (usable : ℕ) (x : Name × Table) (b b' : Tables) → table_need usable (values_of (b ++ x ∷ b')) ≡ need_of_map usable x.1.rows + table_need usable (values_of (b ++ b'))
need_between usable x [] b' = one_more usable x.1 (values_of b')
need_between usable x (y ∷ b) b' = omega (arith, one_more usable y.1 (values_of (b ++ x ∷ b')), one_more usable y.1 (values_of (b ++ b')), need_between usable x b b')

abbrev Differ : Tables → Type 0
Differ tables = KeysDiffer (slice_cmp nat_cmp) tables

need_made : (usable : ℕ) (tables : Tables) → Differ tables → table_need usable (map.values (map.from_entries {R = slice_cmp nat_cmp} tables)) ≡ table_need usable (values_of tables)
need_made usable tables differ =
    sum_values (slice_cmp nat_cmp) (table_need usable) (λ (table : Table). need_of_map usable table.rows) (one_more usable) nat_list_cmp_total (slice_cmp-IsAntisymmetric nat_cmp-IsAntisymmetric) tables differ

pub tables_differ : (entries : List Stored) (found : List (Option Found)) (trees : List Tree) (tables : Tables) → AreTables entries found trees tables → NamesDiffer (tables_in found) → Differ tables
tables_differ [] [] [] [] are differ = tt
tables_differ [] [] [] (t ∷ tables) are differ = absurd are
tables_differ [] [] (tree ∷ trees) tables are differ = absurd are
tables_differ [] (f ∷ found) trees tables are differ = absurd are
tables_differ (entry ∷ entries) [] trees tables are differ = absurd are
tables_differ (entry ∷ entries) (None ∷ found) trees tables are differ = tables_differ entries found trees tables are differ
tables_differ (entry ∷ entries) (Some f ∷ found) [] tables are differ = absurd are
tables_differ (entry ∷ entries) (Some f ∷ found) (tree ∷ trees) [] are differ = absurd are
tables_differ (entry ∷ entries) (Some f ∷ found) (tree ∷ trees) (t ∷ tables) are differ =
    let P : Name → Type 0 = λ name. AllByRecursion (λ (other : Found). other.create.name ≢ name) (tables_in found) in
    (keys_apart t.0 entries found trees tables are.1 (subst P (sym are.0.named) differ.0), tables_differ entries found trees tables are.1 differ.1)

differ_with : (name : Name) (x x' : Table) (b b' : Tables) → Differ (b ++ (name, x) ∷ b') → Differ (b ++ (name, x') ∷ b')
differ_with name x x' [] b' differ = differ
differ_with name x x' (y ∷ b) b' differ =
    let parts = all_at (λ (other : Name × Table). other.0 ≢ y.0) b ((name, x) ∷ b') differ.0 in
    (all_append (λ (other : Name × Table). other.0 ≢ y.0) b ((name, x') ∷ b') parts.0 parts.1, differ_with name x x' b b' differ.1)

differ_without : (x : Name × Table) (b b' : Tables) → Differ (b ++ x ∷ b') → Differ (b ++ b')
differ_without x [] b' differ = differ.1
differ_without x (y ∷ b) b' differ =
    let parts = all_at (λ (other : Name × Table). other.0 ≢ y.0) b (x ∷ b') differ.0 in
    (all_append (λ (other : Name × Table). other.0 ≢ y.0) b b' parts.0 parts.1.1, differ_without x b b' differ.1)

-- what the tables need, with one of them and without it
pub need_parts : (usable : ℕ) (name : Name) (x : Table) (b b' : Tables) → Differ (b ++ (name, x) ∷ b') → (y : Table)
    → table_need usable (map.values (map.from_entries {R = slice_cmp nat_cmp} (b ++ (name, y) ∷ b')))
    ≡ need_of_map usable y.rows + table_need usable (map.values (map.from_entries {R = slice_cmp nat_cmp} (b ++ b')))
need_parts usable name x b b' differ y =
    need_made usable (b ++ (name, y) ∷ b') (differ_with name x y b b' differ) ∙ need_between usable (name, y) b b'
    ∙ ap (λ n. need_of_map usable y.rows + n) (sym (need_made usable (b ++ b') (differ_without (name, x) b b' differ)))

-- and with one more
pub need_more : (usable : ℕ) (name : Name) (x : Table) (tables : Tables) → Differ tables → AllByRecursion (λ (other : Name × Table). other.0 ≢ name) tables
    → table_need usable (map.values (map.insert (map.from_entries {R = slice_cmp nat_cmp} tables) name x)) ≡ need_of_map usable x.rows + table_need usable (map.values (map.from_entries {R = slice_cmp nat_cmp} tables))
need_more usable name x tables differ apart =
    need_made usable ((name, x) ∷ tables) (apart, differ) ∙ one_more usable x (values_of tables) ∙ ap (λ n. need_of_map usable x.rows + n) (sym (need_made usable tables differ))

-- the book: its schema and its tables
pub need_is : (book : Book) → need_of book ≡ need_of_map book.usable book.schema + table_need book.usable (map.values book.tables)
unfolding need_of
need_is book = refl
