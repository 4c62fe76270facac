-- One tree of a book becomes another.
use Rattle.std.proofs.Common.{◌≡◌, ◌≢◌, ℕ, ◌+◌, ◌≤◌, max, pos, List, [], ◌∷◌, ◌++◌, length, map, Option, Some, refl, sym, ap, subst, ◌∙◌}
use Rattle.std.specs.Prelude.{unwrap_or}
use Rattle.std.specs.List.{AllByRecursion, AllZip}
use Rattle.std.specs.Ordering.{nat_cmp, int_cmp}
use Rattle.std.specs.Cmp.Lexicographic.{slice_cmp}
use Rattle.std.proofs.lemmas.Cmp.{nat_list_cmp_total}
use Rattle.std.specs.FinMap as map
use Rattle.std.specs.FinMap.{FinMap, nat_cmp-IsAntisymmetric, slice_cmp-IsAntisymmetric}
use Rattle.page_list.specs.Pages.{Pages, AreSized}
use Rattle.page_list.specs.Freelist.{Trunk, free_pages}
use Rattle.db_format.specs.Schema.{Table as Found, tables_in, NamesDiffer}
use Rattle.tree_model.specs.Tree.{Row as Stored, Tree, rows_of, root_of}
use Rattle.tree_model.specs.Whole.{IsWholeTree, IsWholeFor, named_pages}
use Rattle.tree_model.specs.Database.{HasRecords}
use Rattle.tree_model.specs.Laws.{shown}
use Rattle.tree_model.specs.Need.{use_of as pages_in_use}
use Rattle.tree_laws.specs.Whole.{missing_in, PagesAddUp}
use Rattle.tree_laws.specs.Replace.{UseWithinNeed}
use Rattle.book_model.specs.Book.{Name, Row, Table, Book, table_at, with_rows}
use Rattle.book_model.specs.Pages.{HasRows, IsTable, AreTables, IsBookOf}
use Rattle.book_model.specs.Laws.{BookCounts}
use Rattle.book_changes.proofs.RowLemmas.{Shown}
use Rattle.book_changes.specs.Changes.{Becomes}
use Rattle.book_changes.proofs.TableLemmas.{TableAt, zip_append, zip_at, tables_append, map_append, append_tables, as_many, names_at, keys_apart, map_has, map_replaced}
use Rattle.book_changes.proofs.FrameLemmas.{Frame, unnamed_same, is_sized}
use Rattle.book_changes.proofs.PlainLemmas.{roots_grow, plain_grows}

abbrev pub roots_in : List (Option Found) → List ℕ
roots_in found = map (λ table. table.root) (tables_in found)

-- what numbers of pages a change may leave
abbrev pub Bound : ℕ → Pages → Pages → List ℕ → List Tree → List Trunk → List ℕ → List Tree → Type 0
Bound slack old new roots trees trunks roots' trees' =
    new.size + slack ≤ max (old.size + slack) (length (missing_in (named_pages roots trees trunks) old.size) + pages_in_use roots trees + pages_in_use roots' trees')

-- what a put or a removal leaves where one tree is replaced by another
pub record Changed (slack : ℕ) (old new : Pages) (roots : List ℕ) (before : List Tree) (tree tree' : Tree) (behind : List Tree) (trunks trunks' : List Trunk) : Type 0 where
  pub whole : IsWholeFor new roots (before ++ tree' ∷ behind) trunks'
  pub frame : Frame old new (named_pages roots (before ++ tree ∷ behind) trunks) (named_pages roots (before ++ tree' ∷ behind) trunks')
  pub bound : Bound slack old new roots (before ++ tree ∷ behind) trunks roots (before ++ tree' ∷ behind)

-- the tree of a table among those of the schema is whole, and has what the others have
pub tree_at : (R : Found → Tree → Type 0) (entries : List Stored) (found : List (Option Found)) (trees : List Tree) (tables : List (Name × Table)) (one : Found)
    → (at : TableAt entries found trees tables one) → AllZip R (tables_in found) trees
    → AllZip R (tables_in at.f) at.t × (R one at.tree × AllZip R (tables_in at.f') at.t')
tree_at R entries found trees tables one at all =
    let Z : List (Option Found) → List Tree → Type 0 = λ f t. AllZip R (tables_in f) t in
    let here : Z (at.f ++ Some one ∷ at.f') (at.t ++ at.tree ∷ at.t') =
    subst (λ f. Z f (at.t ++ at.tree ∷ at.t')) at.found_are (subst (λ t. Z found t) at.trees_are all) in
    zip_at R (tables_in at.f) (one ∷ tables_in at.f') at.t (at.tree ∷ at.t') (as_many at.e at.f at.t at.b at.front)
    (subst (λ (l : List Found). AllZip R l (at.t ++ at.tree ∷ at.t')) (tables_append at.f (Some one ∷ at.f')) here)

-- relations of roots are relations of tables
pub by_roots : (R : ℕ → Tree → Type 0) (found : List Found) (trees : List Tree) → AllZip R (map (λ table. table.root) found) trees → AllZip (λ (table : Found) (tree : Tree). R table.root tree) found trees
by_roots R [] [] all = tt
by_roots R [] (tree ∷ trees) all = all
by_roots R (f ∷ found) [] all = all
by_roots R (f ∷ found) (tree ∷ trees) all = (all.0, by_roots R found trees all.1)

pub whole_at : (old : Pages) (book : Book) (is : IsBookOf old book) (one : Found) (at : TableAt (rows_of is.schema) is.found is.trees is.tables one) → IsWholeTree old one.root at.tree
whole_at old book is one at =
    (tree_at (λ (table : Found) (tree : Tree). IsWholeTree old table.root tree) (rows_of is.schema) is.found is.trees is.tables one at
    (by_roots (IsWholeTree old) (tables_in is.found) is.trees is.whole.whole.each_tree.1)).1.0

-- the whole pages with the tree at its place
pub whole_with : (old : Pages) (book : Book) (is : IsBookOf old book) (one : Found) (at : TableAt (rows_of is.schema) is.found is.trees is.tables one)
    → IsWholeFor old (1 ∷ roots_in is.found) ((is.schema ∷ at.t) ++ at.tree ∷ at.t') is.trunks
whole_with old book is one at = subst (λ (t : List Tree). IsWholeFor old (1 ∷ roots_in is.found) (is.schema ∷ t) is.trunks) at.trees_are is.whole.whole

-- the map has the table
pub key_at : (old : Pages) (book : Book) (is : IsBookOf old book) (one : Found) (at : TableAt (rows_of is.schema) is.found is.trees is.tables one)
    → AllByRecursion (λ (x : Name × Table). x.0 ≢ one.create.name) at.b × AllByRecursion (λ (x : Name × Table). x.0 ≢ one.create.name) at.b'
key_at old book is one at =
    let differ = names_at one (tables_in at.f) (tables_in at.f') (subst NamesDiffer (tables_append at.f (Some one ∷ at.f')) (subst (λ f. NamesDiffer (tables_in f)) at.found_are is.whole.once)) in
    (keys_apart one.create.name at.e at.f at.t at.b at.front differ.0, keys_apart one.create.name at.e' at.f' at.t' at.b' at.back differ.1)

pub table_has : (old : Pages) (book : Book) (is : IsBookOf old book) (one : Found) (at : TableAt (rows_of is.schema) is.found is.trees is.tables one)
    → table_at book one.create.name ≡ at.table
table_has old book is one at =
    let none : Table = record { columns = []; entry = pos 0; rows = map.empty } in
    ap (λ m. unwrap_or (map.get m one.create.name) none) (is.tables_are ∙ ap (λ (l : List (Name × Table)). map.from_entries {R = slice_cmp nat_cmp} l) at.tables_are)
    ∙ ap (λ o. unwrap_or o none) (map_has (slice_cmp nat_cmp) nat_list_cmp_total (slice_cmp-IsAntisymmetric nat_cmp-IsAntisymmetric) one.create.name at.table at.b at.b'
    (key_at old book is one at).0)

-- the book with other rows in one table
pub rows_change : BookCounts → UseWithinNeed → PagesAddUp → (slack page_size : ℕ) (old new : Pages) (book : Book) (is : IsBookOf old book) (one : Found)
    (at : TableAt (rows_of is.schema) is.found is.trees is.tables one) (tree' : Tree) (trunks' : List Trunk) (rows' : FinMap int_cmp Row)
    → Changed slack old new (1 ∷ roots_in is.found) (is.schema ∷ at.t) at.tree tree' at.t' is.trunks trunks' → AreSized page_size new
    → HasRows (length one.create.columns) (rows_of tree') rows' → HasRecords one tree' → Becomes book new (with_rows book one.create.name rows')
rows_change counts within add_up slack page_size old new book is one at tree' trunks' rows' change sized has records =
    let table' : Table = record (table_at book one.create.name) { rows = rows' } in
    let same = table_has old book is one at in
    let roots : List ℕ = 1 ∷ roots_in is.found in
    let trees' : List Tree = at.t ++ tree' ∷ at.t' in
    let entry : IsTable at.entry one tree' one.create.name table' = record {
      named = refl;
      columns = ap (λ t. t.columns) same ∙ at.is.columns;
      entry_is = ap (λ t. t.entry) same ∙ at.is.entry_is;
      rows = has;
    } in
    let each = append_tables at.e (at.entry ∷ at.e') at.f (Some one ∷ at.f') at.t (tree' ∷ at.t') at.b ((one.create.name, table') ∷ at.b') at.front (entry, at.back) in
    let all = tree_at HasRecords (rows_of is.schema) is.found is.trees is.tables one at is.whole.records in
    let R : List Found → Type 0 = λ l. AllZip HasRecords l trees' in
    let A : List Stored → List (Option Found) → Type 0 = λ e f. AreTables e f trees' (at.b ++ (one.create.name, table') ∷ at.b') in
    let made = map_replaced (slice_cmp nat_cmp) nat_list_cmp_total (slice_cmp-IsAntisymmetric nat_cmp-IsAntisymmetric) one.create.name at.table table' at.b at.b' (key_at old book is one at).0 in
    let named_are : named_pages roots (is.schema ∷ is.trees) is.trunks ≡ named_pages roots ((is.schema ∷ at.t) ++ at.tree ∷ at.t') is.trunks =
    ap (λ (t : List Tree). named_pages roots (is.schema ∷ t) is.trunks) at.trees_are in
    let frame : Frame old new (named_pages roots (is.schema ∷ is.trees) is.trunks) (named_pages roots (is.schema ∷ trees') trunks') =
    subst (λ (l : List ℕ). Frame old new l (named_pages roots (is.schema ∷ trees') trunks')) (sym named_are) change.frame in
    let bound : Bound slack old new roots (is.schema ∷ is.trees) is.trunks roots (is.schema ∷ trees') =
    subst (λ (t : List Tree). Bound slack old new roots (is.schema ∷ t) is.trunks roots (is.schema ∷ trees')) (sym at.trees_are) change.bound in
    let after : Book = record (with_rows book one.create.name rows') { pages = new.size; free = length (free_pages trunks') } in
    let is' : IsBookOf new after = record {
      schema = is.schema;
      rows = is.rows;
      found = is.found;
      trees = trees';
      trunks = trunks';
      whole = record {
        whole = change.whole;
        schema_rows = is.whole.schema_rows;
        five = is.whole.five;
        roots_within = roots_grow old.size new.size is.rows frame.no_fewer is.whole.roots_within;
        plain = plain_grows old.size new.size is.rows is.rows is.found frame.no_fewer is.whole.roots_within is.whole.plain;
        once = is.whole.once;
        records = subst (λ f. R (tables_in f)) (sym at.found_are) (subst R (sym (tables_append at.f (Some one ∷ at.f')))
            (zip_append HasRecords (tables_in at.f) (one ∷ tables_in at.f') at.t (tree' ∷ at.t') all.0 (records, all.1.1)));
      };
      tables = at.b ++ (one.create.name, table') ∷ at.b';
      each = subst (λ e. A e is.found) (sym at.entries_are) (subst (A (at.e ++ at.entry ∷ at.e')) (sym at.found_are) each);
      tables_are = ap (λ m. map.insert m one.create.name table') (is.tables_are ∙ ap (λ (l : List (Name × Table)). map.from_entries {R = slice_cmp nat_cmp} l) at.tables_are) ∙ sym made;
      foreign_are = is.foreign_are;
      schema_is = is.schema_is;
      unnamed_are = is.unnamed_are ∙ unnamed_same old new (named_pages roots (is.schema ∷ is.trees) is.trunks) (named_pages roots (is.schema ∷ trees') trunks') frame;
      counter_is = is.counter_is ∙ sym frame.counter;
      pages_are = refl;
      free_are = refl;
      page_is = is.page_is ∙ sym frame.page;
      usable_is = is.usable_is ∙ sym frame.usable;
    } in
    record {
      free = length (free_pages trunks');
      is_book = is';
      sized = is_sized counts within add_up slack page_size old new book after sized is is' frame.no_fewer bound;
    }

-- a tree from a root with other rows, and the others as they were; and this whichever roots there are
pub record Edited (slack : ℕ) (old new : Pages) (roots : List ℕ) (before : List Tree) (tree : Tree) (behind : List Tree) (trunks : List Trunk) (edit : Shown → Shown) : Type 0 where
  pub tree' : Tree
  pub trunks' : List Trunk
  pub change : Changed slack old new roots before tree tree' behind trunks trunks'
  pub rooted : root_of tree' ≡ root_of tree
  pub rows : map shown (rows_of tree') ≡ edit (map shown (rows_of tree))

abbrev pub Edits : ℕ → Pages → Pages → ℕ → (Shown → Shown) → Type 0
Edits slack old new root edit = (roots : List ℕ) (before behind : List Tree) (tree : Tree) (trunks : List Trunk) → IsWholeFor old roots (before ++ tree ∷ behind) trunks
    → root_of tree ≡ root → Edited slack old new roots before tree behind trunks edit

-- a root less, and so whichever others there are
pub record Gone (old new : Pages) (front back : List ℕ) (root : ℕ) (before behind : List Tree) (tree : Tree) (trunks : List Trunk) : Type 0 where
  pub trunks' : List Trunk
  pub whole : IsWholeFor new (front ++ back) (before ++ behind) trunks'
  pub frame : Frame old new (named_pages (front ++ root ∷ back) (before ++ tree ∷ behind) trunks) (named_pages (front ++ back) (before ++ behind) trunks')
  pub size : new.size ≡ old.size

abbrev pub Goes : Pages → Pages → ℕ → Type 0
Goes old new root = (front back : List ℕ) (before behind : List Tree) (tree : Tree) (trunks : List Trunk) → length front ≡ length before
    → IsWholeFor old (front ++ root ∷ back) (before ++ tree ∷ behind) trunks → Gone old new front back root before behind tree trunks

pub roots_append : (f f' : List (Option Found)) → roots_in (f ++ f') ≡ roots_in f ++ roots_in f'
roots_append f f' = ap (λ (l : List Found). map (λ table. table.root) l) (tables_append f f') ∙ map_append (λ (table : Found). table.root) (tables_in f) (tables_in f')
