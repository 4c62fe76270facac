-- A table of a book is dropped.
use Rattle.std.proofs.Common.{◌≡◌, ◌≢◌, ℕ, suc, ◌≤◌, ℤ, List, [], ◌∷◌, ◌++◌, length, map, Some, refl, sym, ap, ap₂, subst, ◌∙◌, arith}
use Rattle.std.specs.List.{AllByRecursion, AllZip}
use Rattle.std.specs.Ordering.{nat_cmp}
use Rattle.std.specs.Cmp.Lexicographic.{slice_cmp}
use Rattle.std.proofs.lemmas.Cmp.{nat_list_cmp_total}
use Rattle.std.specs.FinMap as map
use Rattle.std.specs.FinMap.{nat_cmp-IsAntisymmetric, slice_cmp-IsAntisymmetric}
use Rattle.page_list.specs.Pages.{Pages, AreSized}
use Rattle.page_list.specs.Freelist.{Trunk, free_pages}
use Rattle.db_format.specs.Record.{IsRecord}
use Rattle.db_format.specs.Schema.{Table as Found, tables_in, NamesDiffer, IsSchemaRow, HasRootWithin, IsPlainRow, IsTableOf}
use Rattle.db_format.specs.declared.value.Value.{Value}
use Rattle.tree_model.specs.Tree.{Row as Stored, Tree, rowid, rows_of}
use Rattle.tree_model.specs.Whole.{IsWholeFor, below_all, named_pages}
use Rattle.tree_model.specs.Database.{HasRecords}
use Rattle.tree_model.specs.Laws.{Rises, RowsRise, OneTree, shown}
use Rattle.tree_laws.specs.Front.{WholeFront}
use Rattle.tree_laws.specs.Whole.{PagesAddUp, RootRemoved}
use Rattle.tree_laws.specs.Replace.{UseWithinNeed}
use Rattle.book_model.specs.Book.{Name, Table, Book, table_at, without_table}
use Rattle.book_model.specs.Pages.{foreign_in, once, IsBookOf}
use Rattle.book_model.specs.Laws.{BookCounts}
use Rattle.book_changes.specs.Changes.{Becomes, CookieChanges}
use Rattle.tree_removed.specs.Keeps.{without_shown}
use Rattle.book_changes.proofs.RowLemmas.{rows_without}
use Rattle.book_changes.proofs.TableLemmas.{TableAt, zip_append, zip_at, all_append, all_at, tables_append, append_tables, as_many, as_long, names_without, map_removed}
use Rattle.book_changes.proofs.FrameLemmas.{Frame, two_frames, unnamed_same, is_sized}
use Rattle.book_changes.proofs.PlainLemmas.{roots_grow, plain_grows}
use Rattle.book_changes.proofs.ChangeLemmas.{roots_in, Bound, Edits, Goes, roots_append, tree_at, key_at, table_has}
use Rattle.book_changes.proofs.SchemaLemmas.{same_records, same_tables, shown_without, on_without, on_with, SameOn, rows_over, foreign_without}
use Rattle.book_changes.proofs.CookieLemmas.{cookie_whole}

-- the row of a table in the schema, among the others
pub record RowAt (old : Pages) (book : Book) (is : IsBookOf old book) (one : Found) (at : TableAt (rows_of is.schema) is.found is.trees is.tables one) : Type 0 where
  r : List (List Value)
  values : List Value
  r' : List (List Value)
  rows_are : is.rows ≡ r ++ values ∷ r'
  long : length r ≡ length at.f
  records : AllZip (λ row values. IsRecord row.payload values) (at.e ++ at.e') (r ++ r')
  five : AllByRecursion IsSchemaRow (r ++ r')
  within : AllByRecursion (HasRootWithin old.size) (r ++ r')
  pub least : 2 ≤ one.root
  plain : AllZip (IsTableOf old.size (r ++ r')) (r ++ r') (at.f ++ at.f')
  foreign : foreign_in is.rows is.found ≡ foreign_in (r ++ r') (at.f ++ at.f')

-- parts of a list related to another, with one between them
record ZipMiddle {A B : Type 0} (R : A → B → Type 0) (xs : List A) (x : A) (xs' : List A) (ys : List B) : Type 0 where
  front : List B
  y : B
  back : List B
  is : ys ≡ front ++ y ∷ back
  long : length front ≡ length xs
  before : AllZip R xs front
  here : R x y
  behind : AllZip R xs' back

zip_middle : {A B : Type 0} (R : A → B → Type 0) (xs : List A) (x : A) (xs' : List A) (ys : List B) → AllZip R (xs ++ x ∷ xs') ys → ZipMiddle R xs x xs' ys
zip_middle R [] x xs' [] all = absurd all
zip_middle R [] x xs' (y ∷ ys) all = record { front = []; y = y; back = ys; is = refl; long = refl; before = tt; here = all.0; behind = all.1 }
zip_middle R (z ∷ xs) x xs' [] all = absurd all
zip_middle {A} {B} R (z ∷ xs) x xs' (y ∷ ys) all =
    let rest = zip_middle R xs x xs' ys all.1 in
    record {
      front = y ∷ rest.front;
      y = rest.y;
      back = rest.back;
      is = ap (λ (l : List B). y ∷ l) rest.is;
      long = ap suc rest.long;
      before = (all.0, rest.before);
      here = rest.here;
      behind = rest.behind;
    }

on_plain : (size : ℕ) (schema : List (List Value)) (values : List Value) (table : Found) → IsPlainRow size schema values table → (r r' : List (List Value))
    → SameOn (r ++ r') (r ++ values ∷ r')
on_plain size schema values table plain r r' = subst (λ v. SameOn (r ++ r') (r ++ v ∷ r')) (sym plain.values_are) (on_with r r' _)

pub row_at : (old : Pages) (book : Book) (is : IsBookOf old book) (one : Found) (at : TableAt (rows_of is.schema) is.found is.trees is.tables one) → RowAt old book is one at
row_at old book is one at =
    let R : Stored → List Value → Type 0 = λ row values. IsRecord row.payload values in
    let mid = zip_middle R at.e at.entry at.e' is.rows (subst (λ e. AllZip R e is.rows) at.entries_are is.whole.schema_rows) in
    let rows : List (List Value) = mid.front ++ mid.y ∷ mid.back in
    let left : List (List Value) = mid.front ++ mid.back in
    let long : length mid.front ≡ length at.f = mid.long ∙ sym (as_long at.e at.f at.t at.b at.front) in
    let plain = zip_at (IsTableOf old.size rows) mid.front (mid.y ∷ mid.back) at.f (Some one ∷ at.f') long
    (subst (λ f. AllZip (IsTableOf old.size rows) rows f) at.found_are (subst (λ l. AllZip (IsTableOf old.size l) l is.found) mid.is is.whole.plain)) in
    let five = all_at IsSchemaRow mid.front (mid.y ∷ mid.back) (subst (AllByRecursion IsSchemaRow) mid.is is.whole.five) in
    let within = all_at (HasRootWithin old.size) mid.front (mid.y ∷ mid.back) (subst (AllByRecursion (HasRootWithin old.size)) mid.is is.whole.roots_within) in
    record {
      r = mid.front;
      values = mid.y;
      r' = mid.back;
      rows_are = mid.is;
      long = long;
      records = zip_append R at.e at.e' mid.front mid.back mid.before mid.behind;
      five = all_append IsSchemaRow mid.front mid.back five.0 five.1.1;
      within = all_append (HasRootWithin old.size) mid.front mid.back within.0 within.1.1;
      least = plain.1.0.least;
      plain = rows_over old.size rows left left (at.f ++ at.f') (on_without mid.front mid.back mid.y)
          (on_plain old.size rows mid.y one plain.1.0 mid.front mid.back)
          (zip_append (IsTableOf old.size rows) mid.front mid.back at.f at.f' plain.0 plain.1.1);
      foreign = ap₂ foreign_in mid.is at.found_are ∙ foreign_without mid.front mid.back mid.y at.f at.f' one (sym long);
    }

-- the pages without the row of the table and without its tree
record Without (old new : Pages) (schema : Tree) (trunks : List Trunk) (roots roots' : List ℕ) (trees trees' : List Tree) (key : ℤ) : Type 0 where
  schema' : Tree
  trunks' : List Trunk
  whole : IsWholeFor new (1 ∷ roots') (schema' ∷ trees') trunks'
  frame : Frame old new (named_pages (1 ∷ roots) (schema ∷ trees) trunks) (named_pages (1 ∷ roots') (schema' ∷ trees') trunks')
  bound : Bound 0 old new (1 ∷ roots) (schema ∷ trees) trunks (1 ∷ roots') (schema' ∷ trees')
  rows : map shown (rows_of schema') ≡ without_shown key (map shown (rows_of schema))

without : PagesAddUp → RootRemoved → OneTree → WholeFront → (old mid given new : Pages) (schema : Tree) (trunks : List Trunk) (front back : List ℕ) (root : ℕ)
    (before behind : List Tree) (tree : Tree) (key : ℤ) → length front ≡ length before → root ≢ 1 → IsWholeFor old (1 ∷ (front ++ root ∷ back)) (schema ∷ (before ++ tree ∷ behind)) trunks
    → Edits 0 old mid 1 (without_shown key) → Goes mid given root → CookieChanges given new
    → Without old new schema trunks (front ++ root ∷ back) (front ++ back) (before ++ tree ∷ behind) (before ++ behind) key
without add_up removed one_tree to_front old mid given new schema trunks front back root before behind tree key long other whole edits goes cookie =
    let rooted = whole.each_tree.0.rooted in
    let first = edits (1 ∷ (front ++ root ∷ back)) [] (before ++ tree ∷ behind) schema trunks whole rooted in
    let gone = goes (1 ∷ front) back (first.tree' ∷ before) behind tree first.trunks' (ap suc long) first.change.whole in
    let last = cookie_whole to_front given new (1 ∷ (front ++ back)) (first.tree' ∷ (before ++ behind)) gone.trunks' gone.whole cookie in
    -- the bound is that of the removal over the other roots, where nothing names the pages of the tree
    let left = (removed old (1 ∷ front) back root (schema ∷ before) behind tree trunks (ap suc long) other whole).0 in
    let second = edits (1 ∷ (front ++ back)) [] (before ++ behind) schema trunks left rooted in
    let same : second.tree' ≡ first.tree' = one_tree mid second.tree' first.tree' second.change.whole.each_tree.0.held first.change.whole.each_tree.0.held (second.rooted ∙ sym first.rooted) in
    let B : Tree → Type 0 = λ t. Bound 0 old mid (1 ∷ (front ++ back)) (schema ∷ (before ++ behind)) trunks (1 ∷ (front ++ back)) (t ∷ (before ++ behind)) in
    let bound = subst B same second.change.bound in
    let all = add_up old (1 ∷ (front ++ root ∷ back)) (schema ∷ (before ++ tree ∷ behind)) trunks whole in
    let rest = add_up old (1 ∷ (front ++ back)) (schema ∷ (before ++ behind)) trunks left in
    record {
      schema' = first.tree';
      trunks' = gone.trunks';
      whole = last.0;
      frame = two_frames old given new (named_pages (1 ∷ (front ++ root ∷ back)) (schema ∷ (before ++ tree ∷ behind)) trunks)
          (named_pages (1 ∷ (front ++ back)) (first.tree' ∷ (before ++ behind)) gone.trunks') (named_pages (1 ∷ (front ++ back)) (first.tree' ∷ (before ++ behind)) gone.trunks')
          (two_frames old mid given (named_pages (1 ∷ (front ++ root ∷ back)) (schema ∷ (before ++ tree ∷ behind)) trunks)
          (named_pages (1 ∷ (front ++ root ∷ back)) (first.tree' ∷ (before ++ tree ∷ behind)) first.trunks') (named_pages (1 ∷ (front ++ back)) (first.tree' ∷ (before ++ behind)) gone.trunks')
          first.change.frame gone.frame)
          last.1;
      bound = omega (arith, bound, all, rest, gone.size, cookie.size);
      rows = first.rows;
    }

pub roots_long : (found : List Found) → length (map (λ (table : Found). table.root) found) ≡ length found
roots_long [] = refl
roots_long (f ∷ found) = ap suc (roots_long found)

pub table_dropped : BookCounts → UseWithinNeed → PagesAddUp → RootRemoved → OneTree → WholeFront → RowsRise → (page_size : ℕ) (old mid given new : Pages) (book : Book) (is : IsBookOf old book)
    (one : Found) (at : TableAt (rows_of is.schema) is.found is.trees is.tables one) → Edits 0 old mid 1 (without_shown (table_at book one.create.name).entry) → Goes mid given one.root
    → CookieChanges given new → AreSized page_size new → Becomes book new (without_table book one.create.name)
table_dropped counts within add_up removed one_tree to_front rises page_size old mid given new book is one at edits goes cookie sized =
    let name : Name = one.create.name in
    let row = row_at old book is one at in
    let entry : (table_at book name).entry ≡ rowid at.entry = ap (λ t. t.entry) (table_has old book is one at) ∙ at.is.entry_is in
    let roots : List ℕ = roots_in at.f ++ one.root ∷ roots_in at.f' in
    let trees : List Tree = at.t ++ at.tree ∷ at.t' in
    let trees' : List Tree = at.t ++ at.t' in
    let roots_are : roots_in is.found ≡ roots = ap roots_in at.found_are ∙ roots_append at.f (Some one ∷ at.f') in
    let roots_left : roots_in at.f ++ roots_in at.f' ≡ roots_in (at.f ++ at.f') = sym (roots_append at.f at.f') in
    let W : List ℕ → List Tree → Type 0 = λ r t. IsWholeFor old (1 ∷ r) (is.schema ∷ t) is.trunks in
    let whole = subst (λ r. W r trees) roots_are (subst (W (roots_in is.found)) at.trees_are is.whole.whole) in
    let long : length (roots_in at.f) ≡ length at.t = roots_long (tables_in at.f) ∙ as_many at.e at.f at.t at.b at.front in
    let least = row.least in
    let step = without add_up removed one_tree to_front old mid given new is.schema is.trunks (roots_in at.f) (roots_in at.f') one.root at.t at.t' at.tree (table_at book name).entry long
    (λ same. omega (arith, least, same)) whole edits goes cookie in
    let has = rows_without 5 below_all (rows_of is.schema) (rows_of step.schema') book.schema (table_at book name).entry (rises old 1 is.schema is.whole.whole.each_tree.0) step.rows is.schema_is in
    let left : map shown (at.e ++ at.e') ≡ map shown (rows_of step.schema') =
    sym (step.rows ∙ ap₂ (λ (k : ℤ) (e : List Stored). without_shown k (map shown e)) entry at.entries_are
    ∙ (shown_without below_all at.e at.e' at.entry (subst (Rises below_all) at.entries_are (rises old 1 is.schema is.whole.whole.each_tree.0))).1) in
    let N : List ℕ → List Tree → List ℕ = λ r t. named_pages (1 ∷ r) (is.schema ∷ t) is.trunks in
    let named' : List ℕ → List ℕ = λ r. named_pages (1 ∷ r) (step.schema' ∷ trees') step.trunks' in
    let frame : Frame old new (N (roots_in is.found) is.trees) (named' (roots_in (at.f ++ at.f'))) =
    subst (λ r. Frame old new (N (roots_in is.found) is.trees) (named' r)) roots_left
    (subst (λ (l : List ℕ). Frame old new l (named' (roots_in at.f ++ roots_in at.f'))) (sym (ap₂ N roots_are at.trees_are)) step.frame) in
    let B : List ℕ → List Tree → List ℕ → Type 0 = λ r t r'. Bound 0 old new (1 ∷ r) (is.schema ∷ t) is.trunks (1 ∷ r') (step.schema' ∷ trees') in
    let bound : B (roots_in is.found) is.trees (roots_in (at.f ++ at.f')) =
    subst (B (roots_in is.found) is.trees) roots_left (subst (λ t. B (roots_in is.found) t (roots_in at.f ++ roots_in at.f')) (sym at.trees_are)
    (subst (λ r. B r trees (roots_in at.f ++ roots_in at.f')) (sym roots_are) step.bound)) in
    let all = tree_at HasRecords (rows_of is.schema) is.found is.trees is.tables one at is.whole.records in
    let apart = key_at old book is one at in
    let after : Book = record (without_table book name) { pages = new.size; free = length (free_pages step.trunks') } in
    let is' : IsBookOf new after = record {
      schema = step.schema';
      rows = row.r ++ row.r';
      found = at.f ++ at.f';
      trees = trees';
      trunks = step.trunks';
      whole = record {
        whole = subst (λ r. IsWholeFor new (1 ∷ r) (step.schema' ∷ trees') step.trunks') roots_left step.whole;
        schema_rows = same_records (at.e ++ at.e') (rows_of step.schema') (row.r ++ row.r') left row.records;
        five = row.five;
        roots_within = roots_grow old.size new.size (row.r ++ row.r') frame.no_fewer row.within;
        plain = plain_grows old.size new.size (row.r ++ row.r') (row.r ++ row.r') (at.f ++ at.f') frame.no_fewer row.within row.plain;
        once = subst NamesDiffer (sym (tables_append at.f at.f')) (names_without one (tables_in at.f) (tables_in at.f')
            (subst NamesDiffer (tables_append at.f (Some one ∷ at.f')) (subst (λ f. NamesDiffer (tables_in f)) at.found_are is.whole.once)));
        records = subst (λ (l : List Found). AllZip HasRecords l trees') (sym (tables_append at.f at.f'))
            (zip_append HasRecords (tables_in at.f) (tables_in at.f') at.t at.t' all.0 all.1.1);
      };
      tables = at.b ++ at.b';
      each = same_tables (at.e ++ at.e') (rows_of step.schema') (at.f ++ at.f') trees' (at.b ++ at.b') left (append_tables at.e at.e' at.f at.f' at.t at.t' at.b at.b' at.front at.back);
      tables_are = ap (λ m. map.remove m name) (is.tables_are ∙ ap (λ (l : List (Name × Table)). map.from_entries {R = slice_cmp nat_cmp} l) at.tables_are)
          ∙ sym (map_removed (slice_cmp nat_cmp) nat_list_cmp_total (slice_cmp-IsAntisymmetric nat_cmp-IsAntisymmetric) name at.table at.b at.b' apart.0 apart.1);
      foreign_are = is.foreign_are ∙ ap once row.foreign;
      schema_is = has;
      unnamed_are = is.unnamed_are ∙ unnamed_same old new (N (roots_in is.found) is.trees) (named' (roots_in (at.f ++ at.f'))) frame;
      counter_is = is.counter_is ∙ sym frame.counter;
      pages_are = refl;
      free_are = refl;
      page_is = is.page_is ∙ sym frame.page;
      usable_is = is.usable_is ∙ sym frame.usable;
    } in
    record {
      free = length (free_pages step.trunks');
      is_book = is';
      sized = is_sized counts within add_up 0 page_size old new book after sized is is' frame.no_fewer bound;
    }
