-- The book of what was read from whole pages.
use Rattle.std.proofs.Common.{◌≡◌, ◌≢◌, ◌⊎◌, inl, inr, ℕ, ℤ, T, Ordering, List, [], ◌∷◌, ◌++◌, append_assoc, map, Option, Some, None, refl, sym, ap, ap₂, subst, ◌∙◌, arith, length, ◌-◌, ◌≤◌, take, drop, get_or}
use Rattle.std.proofs.lemmas.List.{append-nil, take_all}
use Rattle.std.specs.List.{AllZip, AllByRecursion}
use Rattle.std.specs.Ordering.{int_cmp}
use Rattle.std.specs.FinMap as map
use Rattle.std.specs.FinMap.{FinMap, entries, from_sorted, is_sorted, same_entries_map, entries-from_sorted, entries_sorted}
use Rattle.page_list.specs.Pages.{Pages, HasPage}
use Rattle.page_list.specs.Freelist.{OneFreelist}
use Rattle.db_format.specs.Schema.{Table as Found, IsTableOf, IsRecordOf, tables_in}
use Rattle.db_format.specs.declared.value.Value.{Value}
use Rattle.tree_model.specs.Tree.{Row as Stored, Tree, rowid, rows_of}
use Rattle.tree_model.specs.Whole.{IsWholeTree, IsWholeFor, most_depth, named_pages}
use Rattle.tree_model.specs.Database.{IsWitness, IsWhole}
use Rattle.tree_model.specs.Laws.{OneTree}
use Rattle.tree_model.proofs.OneWitnessLemmas.{same_found}
use Rattle.ref_trees.specs.Gathered.{HasTree, HasRows}
use Rattle.ref_trees.specs.Forest.{LacksTree, HasNoFreelist}
use Rattle.ref_trees.specs.declared.whole.Lacks.TheVariants as lacks
use Rattle.ref_trees.proofs.ForestLemmas.{not_whole, tree_of_whole}
use Rattle.ref_schema.specs.Steps.{AreRecords, HasRecordsIn, HaveRecords}
use Rattle.ref_schema.proofs.DatabaseLemmas.{Known, same_rows, same_schema, not_for_roots, no_rows_in}
use Rattle.book_model.specs.Book.{Name, Row, Table, Book}
use Rattle.book_model.specs.Pages.{AreTables, entries_of, foreign_in, once, IsBookOf}
use Rattle.ref_book.specs.Loaded.{IsSchema, HasTreeOf, IsHeld, AreHeld, AreHeldBehind, AreNamed, roots_in, unnamed_in, IsPut}

-- the same tree stands at each root
same_tree : OneTree → (pages : Pages) (root : ℕ) (a b : Tree) → HasTree pages most_depth root a → HasTree pages most_depth root b → a ≡ b
same_tree one pages root a b ha hb = one pages a b ha.held hb.held (ha.rooted ∙ sym hb.rooted)

same_forest : OneTree → (pages : Pages) (roots : List ℕ) (a b : List Tree) → AllZip (HasTree pages most_depth) roots a → AllZip (IsWholeTree pages) roots b → a ≡ b
same_forest one pages [] [] [] p q = refl
same_forest one pages [] (x ∷ a) b p q = absurd p
same_forest one pages [] [] (y ∷ b) p q = absurd q
same_forest one pages (root ∷ roots) [] b p q = absurd p
same_forest one pages (root ∷ roots) (x ∷ a) [] p q = absurd q
same_forest one pages (root ∷ roots) (x ∷ a) (y ∷ b) p q =
    ap₂ (λ (t : Tree) (l : List Tree). t ∷ l) (same_tree one pages root x y p.0 (tree_of_whole pages root y q.0)) (same_forest one pages roots a b p.1 q.1)

-- a tree at the root of each table
at_roots : (pages : Pages) (tables : List Found) (trees : List Tree) → AllZip (HasTreeOf pages) tables trees → AllZip (HasTree pages most_depth) (map (λ table. table.root) tables) trees
at_roots pages [] [] p = tt
at_roots pages [] (t ∷ trees) p = absurd p
at_roots pages (table ∷ tables) [] p = absurd p
at_roots pages (table ∷ tables) (t ∷ trees) p = (p.0, at_roots pages tables trees p.1)

-- what was read is what a witness says
pub is_book_of : Known → OneFreelist → (pages : Pages) (rows : List Stored) (records : List (List Value)) (found : List (Option Found)) (tables : List (Name × Table)) (named : List ℕ) (book : Book) →
    IsSchema pages rows records found → AreHeld pages rows found tables → AreNamed pages (roots_in found) named → IsPut pages rows records found tables named book → IsWitness pages → IsBookOf pages book
is_book_of known one_freelist pages rows records found tables named book schema held names put w =
    let r : rows ≡ rows_of w.schema = same_rows known pages w rows schema.has in
    let v : records ≡ w.rows = same_schema known pages w rows records schema.has schema.are in
    let F : List (List Value) → Type 0 = λ l. AllZip (IsTableOf pages.size l) l w.found in
    let f : found ≡ w.found = same_found known.create pages.size records records found w.found schema.plain (subst F (sym v) w.is_whole.plain) in
    let R : List (Option Found) → Type 0 = λ l. AllZip (IsWholeTree pages) (roots_in l) (w.schema ∷ w.trees) in
    let whole = subst R (sym f) w.is_whole.whole.each_tree in
    let t : held.trees ≡ w.trees = same_forest known.tree pages (map (λ table. table.root) (tables_in found)) held.trees w.trees (at_roots pages (tables_in found) held.trees held.has_trees) whole.1 in
    let a : names.trees ≡ w.schema ∷ w.trees = same_forest known.tree pages (roots_in found) names.trees (w.schema ∷ w.trees) names.each whole in
    let k = one_freelist pages names.said.trunks w.trunks names.said.has w.is_whole.whole.freelist in
    let named_is : named ≡ named_pages (roots_in w.found) (w.schema ∷ w.trees) w.trunks = names.said.said ∙ (λ i. named_pages (roots_in (f i)) (a i) (k i)) in
    let w3 : ◌≡◌ {A = List Stored × List (Option Found) × List Tree} (rows, found, held.trees) (rows_of w.schema, w.found, w.trees) = λ i. (r i, f i, t i) in
    let T : List Stored × List (Option Found) × List Tree → Type 0 = λ x. AreTables x.0 x.1 x.2 tables in
    record {
      schema = w.schema;
      rows = w.rows;
      found = w.found;
      trees = w.trees;
      trunks = w.trunks;
      whole = w.is_whole;
      tables = tables;
      each = subst T w3 held.are;
      tables_are = put.tables_are;
      foreign_are = put.foreign_are ∙ (λ i. once (foreign_in (v i) (f i)));
      schema_is = record { contents = w.rows; each = w.is_whole.schema_rows; is = put.schema_is ∙ (λ i. map.from_entries (entries_of 5 (r i) (v i))) };
      unnamed_are = put.unnamed_are ∙ ap (unnamed_in pages) named_is;
      counter_is = put.numbers.counter_is;
      pages_are = put.numbers.size_is;
      free_are = put.numbers.free_is ∙ w.is_whole.whole.counted;
      page_is = put.numbers.page_is;
      usable_is = put.numbers.usable_is;
    }

pub some_page : (pages : Pages) → HasPage pages 1 → pages.size ≢ 0
some_page pages has none = omega (arith, has.most, none)

pub whole_book : Known → OneFreelist → (pages : Pages) (rows : List Stored) (records : List (List Value)) (found : List (Option Found)) (tables : List (Name × Table)) (named : List ℕ) (book : Book) →
    HasPage pages 1 → IsSchema pages rows records found → AreHeld pages rows found tables → AreNamed pages (roots_in found) named → IsPut pages rows records found tables named book → IsWhole pages → IsBookOf pages book
whole_book known one pages rows records found tables named book has schema held names put (inl none) = absurd (some_page pages has none)
whole_book known one pages rows records found tables named book has schema held names put (inr w) = is_book_of known one pages rows records found tables named book schema held names put w

-- ---- what was not read

pub no_tables : Known → (pages : Pages) (rows : List Stored) (records : List (List Value)) (found : List (Option Found)) → HasPage pages 1 → IsSchema pages rows records found →
    ¬ (HaveRecords pages (tables_in found)) → ¬ (IsWhole pages)
no_tables known pages rows records found has schema none =
    no_rows_in known pages rows records (tables_in found) (some_page pages has) schema.has schema.are (record { found = found; plain = schema.plain; tables_are = refl }) none

pub no_names : Known → OneFreelist → (pages : Pages) (rows : List Stored) (records : List (List Value)) (found : List (Option Found)) → HasPage pages 1 → IsSchema pages rows records found →
    LacksTree pages (roots_in found) ⊎ HasNoFreelist pages → ¬ (IsWhole pages)
no_names known one pages rows records found has schema lack =
    not_for_roots known pages rows records (tables_in found) (some_page pages has) schema.has schema.are (record { found = found; plain = schema.plain; tables_are = refl }) (by lack)
  where
    by : LacksTree pages (roots_in found) ⊎ HasNoFreelist pages → (trees : List Tree) (trunks : List _) → ¬ (IsWholeFor pages (roots_in found) trees trunks)
    by (inl l) = not_whole known.tree one pages (roots_in found) (lacks.Tree l.root) (l.among, l.none)
    by (inr none) = not_whole known.tree one pages (roots_in found) lacks.Freelist none

-- ---- maps of what was read

pub map_of_entries : {K X : Type 0} (R : K → K → Ordering) (m : FinMap R X) → from_sorted {R = R} (entries m) ≡ m
map_of_entries R m = same_entries_map _ _ (entries-from_sorted R (entries m) (entries_sorted m))

pub entries_rise : {K X : Type 0} (R : K → K → Ordering) (m : FinMap R X) (all : List (K × X)) → all ≡ entries m → T (is_sorted R all)
entries_rise R m all is = subst (λ (l : List (_ × _)). T (is_sorted R l)) (sym is) (entries_sorted m)

-- ---- one table

contents_of : (columns : ℕ) (stored : List Stored) → AllByRecursion (λ row. IsRecordOf columns row.payload) stored → (contents : List (List Value)) × AreRecords stored contents
contents_of columns [] all = ([], tt)
contents_of columns (row ∷ stored) all =
    let more = contents_of columns stored all.1 in
    (all.0.values ∷ more.0, (all.0.is_record, more.1))

pub no_contents : OneTree → (pages : Pages) (found : Found) (rows : List Stored) → HasRows pages found.root rows → ((records : List (List Value)) → ¬ (AreRecords rows records)) → ¬ (HasRecordsIn pages found)
no_contents one pages found rows has none h =
    let same : rows ≡ rows_of h.tree = has.rows_are ∙ ap rows_of (same_tree one pages found.root has.tree h.tree has.has_tree h.has_tree) in
    let made = contents_of (length found.create.columns) (rows_of h.tree) h.records in
    none made.0 (subst (λ (l : List Stored). AreRecords l made.0) (sym same) made.1)

pub is_held : (pages : Pages) (entry : Stored) (found : Found) (rows : List Stored) (contents : List (List Value)) (name : Name) (columns : List Name) (count : ℕ) (at : ℤ) (kept : List (ℤ × Row)) (table : Table) →
    HasRows pages found.root rows → AreRecords rows contents → name ≡ found.create.name → columns ≡ found.create.columns → count ≡ length found.create.columns → at ≡ rowid entry →
    kept ≡ entries (map.from_entries {R = int_cmp} (entries_of count rows contents)) → table ≡ record { columns = columns; entry = at; rows = from_sorted kept } → IsHeld pages entry found (name, table)
is_held pages entry found rows contents name columns count at kept table has are named wide counted at_is kept_is table_is = record {
  tree = has.tree;
  has_tree = has.has_tree;
  is = record {
    named = named;
    columns = ap (λ (t : Table). t.columns) table_is ∙ wide;
    entry_is = ap (λ (t : Table). t.entry) table_is ∙ at_is;
    rows = record {
      contents = contents;
      each = subst (λ (l : List Stored). AreRecords l contents) has.rows_are are;
      is =
          ap (λ (t : Table). t.rows) table_is ∙ ap (λ (l : List (ℤ × Row)). from_sorted l) kept_is
          ∙ map_of_entries int_cmp (map.from_entries (entries_of count rows contents))
          ∙ (λ i. map.from_entries (entries_of (counted i) (has.rows_are i) contents));
    };
  };
}

-- ---- tables one after the other

pub none_held : (pages : Pages) (rows : List Stored) (found : List (Option Found)) (all : List (Name × Table)) → rows ≡ [] → length rows ≡ length found → AreHeldBehind pages rows found all all
none_held pages [] [] all none same = record { tables = []; held = record { trees = []; has_trees = tt; are = tt }; behind = sym (append-nil all) }
none_held pages [] (f ∷ found) all none same = absurd (omega (arith, same))
none_held pages (row ∷ rows) found all none same = absurd (omega (arith, ap length none))

pub held_none : (pages : Pages) (row : Stored) (rows : List Stored) (found : List (Option Found)) (old new : List (Name × Table)) → AreHeldBehind pages rows found old new → AreHeldBehind pages (row ∷ rows) (None ∷ found) old new
held_none pages row rows found old new more = record { tables = more.tables; held = record { trees = more.held.trees; has_trees = more.held.has_trees; are = more.held.are }; behind = more.behind }

pub held_one : (pages : Pages) (row : Stored) (rows : List Stored) (one : Found) (found : List (Option Found)) (old mid new : List (Name × Table)) (table : Name × Table) → IsHeld pages row one table → mid ≡ old ++ table ∷ [] →
    AreHeldBehind pages rows found mid new → AreHeldBehind pages (row ∷ rows) (Some one ∷ found) old new
held_one pages row rows one found old mid new table held put more = record {
  tables = table ∷ more.tables;
  held = record { trees = held.tree ∷ more.held.trees; has_trees = (held.has_tree, more.held.has_trees); are = (held.is, more.held.are) };
  behind = more.behind ∙ ap (λ (l : List (Name × Table)). l ++ more.tables) put ∙ append_assoc old (table ∷ []) more.tables;
}

pub held_some : (pages : Pages) (rows : List Stored) (found : List (Option Found)) (row : Stored) (made : Option Found) (one : Found) (old mid new : List (Name × Table)) (table : Name × Table) → 1 ≤ length rows → 1 ≤ length found →
    row ≡ get_or rows 0 row → made ≡ get_or found 0 made → made ≡ Some one → IsHeld pages row one table → mid ≡ old ++ table ∷ [] →
    AreHeldBehind pages (take (length rows - 1) (drop 1 rows)) (take (length found - 1) (drop 1 found)) mid new → AreHeldBehind pages rows found old new
held_some pages [] found row made one old mid new table some more begins first is held put rest = absurd (omega arith)
held_some pages (x ∷ rows) [] row made one old mid new table some more begins first is held put rest = absurd (omega arith)
held_some pages (x ∷ rows) (y ∷ found) row made one old mid new table some more begins first is held put rest =
    let both : ◌≡◌ {A = List Stored × List (Option Found)} (take (length (x ∷ rows) - 1) rows, take (length (y ∷ found) - 1) found) (rows, found) =
    λ i. (take_all (length (x ∷ rows) - 1) rows (omega arith) i, take_all (length (y ∷ found) - 1) found (omega arith) i) in
    let kept = subst (λ (l : List Stored × List (Option Found)). AreHeldBehind pages l.0 l.1 mid new) both rest in
    subst (λ (m : Option Found). AreHeldBehind pages (x ∷ rows) (m ∷ found) old new) (sym is ∙ first)
    (held_one pages x rows one found old mid new table (subst (λ (r : Stored). IsHeld pages r one table) begins held) put kept)

pub held_other : (pages : Pages) (rows : List Stored) (found : List (Option Found)) (made : Option Found) (old mid new : List (Name × Table)) → 1 ≤ length rows → 1 ≤ length found →
    made ≡ get_or found 0 made → ((one : Found) → made ≢ Some one) → mid ≡ old →
    AreHeldBehind pages (take (length rows - 1) (drop 1 rows)) (take (length found - 1) (drop 1 found)) mid new → AreHeldBehind pages rows found old new
held_other pages [] found made old mid new some more first is same rest = absurd (omega arith)
held_other pages (x ∷ rows) [] made old mid new some more first is same rest = absurd (omega arith)
held_other pages (x ∷ rows) (Some y ∷ found) made old mid new some more first is same rest = absurd (is y first)
held_other pages (x ∷ rows) (None ∷ found) made old mid new some more first is same rest =
    let all : List (Option Found) = None ∷ found in
    let both : ◌≡◌ {A = List Stored × List (Option Found)} (take (length (x ∷ rows) - 1) rows, take (length all - 1) found) (rows, found) =
    λ i. (take_all (length (x ∷ rows) - 1) rows (omega arith) i, take_all (length all - 1) found (omega arith) i) in
    let kept = subst (λ (l : List Stored × List (Option Found)). AreHeldBehind pages l.0 l.1 mid new) both rest in
    held_none pages x rows found old new (subst (λ (l : List (Name × Table)). AreHeldBehind pages rows found l new) same kept)

-- no table stood before them
pub all_held : (pages : Pages) (rows : List Stored) (found : List (Option Found)) (old new : List (Name × Table)) → old ≡ [] → AreHeldBehind pages rows found old new → AreHeld pages rows found new
all_held pages rows found old new none behind =
    subst (AreHeld pages rows found) (sym (behind.behind ∙ ap (λ (l : List (Name × Table)). l ++ behind.tables) none)) behind.held

zip_long : {A B : Type 0} (R : A → B → Type 0) (xs : List A) (ys : List B) → AllZip R xs ys → length xs ≡ length ys
zip_long R [] [] all = refl
zip_long R [] (y ∷ ys) all = absurd all
zip_long R (x ∷ xs) [] all = absurd all
zip_long R (x ∷ xs) (y ∷ ys) all = omega (arith, zip_long R xs ys all.1)

pub schema_long : (pages : Pages) (rows : List Stored) (records : List (List Value)) (found : List (Option Found)) → IsSchema pages rows records found → length rows ≡ length found
schema_long pages rows records found schema = zip_long _ rows records schema.are ∙ zip_long _ records found schema.plain
