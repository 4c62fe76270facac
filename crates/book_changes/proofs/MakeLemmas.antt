-- A table of a book is made.
use Rattle.std.proofs.Common.{◌≡◌, ◌≢◌, ℕ, suc, ◌+◌, ◌≤◌, false, max, ℤ, List, [], ◌∷◌, ◌++◌, length, map, Option, Some, refl, sym, ap, ap₂, subst, ◌∙◌, arith, append-nil, length-append}
use Rattle.std.specs.List.{AllByRecursion, AllZip}
use Rattle.std.specs.Ordering.{nat_cmp}
use Rattle.std.specs.Cmp.Lexicographic.{slice_cmp}
use Rattle.std.proofs.lemmas.Cmp.{nat_list_cmp_total}
use Rattle.std.specs.FinMap as map
use Rattle.std.specs.FinMap.{nat_cmp-IsAntisymmetric, slice_cmp-IsAntisymmetric}
use Rattle.page_list.specs.Pages.{Pages, AreSized}
use Rattle.page_list.specs.Freelist.{Trunk, free_pages}
use Rattle.db_format.specs.Create.{IsPlain}
use Rattle.db_format.specs.Record.{IsRecord, OneRecord}
use Rattle.db_format.specs.Schema.{Table as Found, tables_in, NamesDiffer, IsOn, IsSchemaRow, HasRootWithin, IsTableOf}
use Rattle.db_format.specs.declared.value.Value.{Value}
use Rattle.tree_model.specs.Tree.{Row as Stored, Tree, Leaf, rows_of}
use Rattle.tree_model.specs.Whole.{IsWholeTree, IsWholeFor, below_all, named_pages}
use Rattle.tree_model.specs.Database.{HasRecords}
use Rattle.tree_model.specs.Laws.{RowsRise, OneTree, shown, row_at}
use Rattle.tree_model.specs.Need.{use_of as pages_in_use}
use Rattle.tree_laws.specs.Front.{WholeFront}
use Rattle.tree_laws.specs.Whole.{missing_in, PagesAddUp, RootRemoved}
use Rattle.tree_laws.specs.Replace.{UseWithinNeed}
use Rattle.tree_put.specs.Keeps.{put_shown}
use Rattle.book_model.specs.Size.{record_size}
use Rattle.book_model.specs.Book.{Name, Table, Book, use_of, next_entry, is_taken, with_table}
use Rattle.book_model.specs.Pages.{IsTable, AreTables, foreign_in, once, IsBookOf}
use Rattle.book_model.specs.Laws.{BookCounts}
use Rattle.book_changes.specs.Changes.{Becomes, CookieChanges}
use Rattle.book_changes.proofs.RowLemmas.{Shown, is_there, rows_put}
use Rattle.book_changes.proofs.TableLemmas.{zip_append, zip_at, all_append, all_at, map_append, tables_append, append_tables, as_many, as_long, keys_apart, map_inserted}
use Rattle.book_changes.proofs.FrameLemmas.{Frame, two_frames, frame_alike, missing_same, unnamed_same, is_tight, is_sized}
use Rattle.book_changes.proofs.PlainLemmas.{roots_grow, plain_grows}
use Rattle.book_changes.proofs.ChangeLemmas.{roots_in, Bound, Edits, roots_append}
use Rattle.book_changes.proofs.SchemaLemmas.{zip_split, same_records, same_tables, on_without, on_with, rows_over, foreign_without}
use Rattle.book_changes.proofs.CookieLemmas.{cookie_whole}
use Rattle.book_changes.proofs.MoveLemmas.{some_used, moved_named, moved_use, whole_moved, one_more_used, not_first}
use Rattle.book_changes.proofs.EntryLemmas.{PutBetween, put_between, TablesSplit, split_tables, none_taken, none_on, other_names, names_with, new_table, entry_more, entry_values, entry_plain, entry_within, entry_five, any_row}

-- a root without a row behind the others, and so whichever others there are
pub record Added (old new : Pages) (number : ℕ) (roots : List ℕ) (trees : List Tree) (trunks : List Trunk) : Type 0 where
  pub trunks' : List Trunk
  pub whole : IsWholeFor new (roots ++ number ∷ []) (trees ++ Leaf number [] ∷ []) trunks'
  pub frame : Frame old new (named_pages roots trees trunks) (named_pages (roots ++ number ∷ []) (trees ++ Leaf number [] ∷ []) trunks')
  pub bound : new.size ≤ max old.size (length (missing_in (named_pages roots trees trunks) old.size) + pages_in_use roots trees + 1)

abbrev pub Adds : Pages → Pages → ℕ → Type 0
Adds old new number = (roots : List ℕ) (trees : List Tree) (trunks : List Trunk) → IsWholeFor old roots trees trunks → Added old new number roots trees trunks

-- without the new root, which nothing names then, the pages are whole for the old ones
pub record Beside (old mid : Pages) (roots : List ℕ) (trees : List Tree) (trunks trunks' : List Trunk) : Type 0 where
  pub whole : IsWholeFor mid (1 ∷ roots) trees trunks'
  pub missing : length (missing_in (named_pages (1 ∷ roots) trees trunks') mid.size) ≡ length (missing_in (named_pages (1 ∷ roots) trees trunks) old.size) + 1

pub beside : PagesAddUp → RootRemoved → (old mid : Pages) (number : ℕ) (roots : List ℕ) (schema : Tree) (trees : List Tree) (trunks : List Trunk) → length roots ≡ length trees
    → (added : Added old mid number (1 ∷ roots) (schema ∷ trees) trunks) → Beside old mid roots (schema ∷ trees) trunks added.trunks'
beside add_up removed old mid number roots schema trees trunks long added =
    let other = not_first mid roots schema trees number added.trunks' added.whole in
    let left = (removed mid (1 ∷ roots) [] number (schema ∷ trees) [] (Leaf number []) added.trunks' (ap suc long) other added.whole).0 in
    let W : List ℕ → List Tree → Type 0 = λ r t. IsWholeFor mid r t added.trunks' in
    let whole : W (1 ∷ roots) (schema ∷ trees) = subst (λ t. W (1 ∷ roots) t) (append-nil (schema ∷ trees)) (subst (λ r. W r ((schema ∷ trees) ++ [])) (append-nil (1 ∷ roots)) left) in
    let all = add_up mid (1 ∷ (roots ++ number ∷ [])) (schema ∷ (trees ++ Leaf number [] ∷ [])) added.trunks' added.whole in
    let rest = add_up mid (1 ∷ roots) (schema ∷ trees) added.trunks' whole in
    let more = one_more_used roots (schema ∷ trees) number in
    let same = ap (λ (l : List ℕ). length l) (missing_same old mid (named_pages (1 ∷ roots) (schema ∷ trees) trunks)
    (named_pages (1 ∷ (roots ++ number ∷ [])) (schema ∷ (trees ++ Leaf number [] ∷ [])) added.trunks') added.frame) in
    record { whole = whole; missing = omega (arith, all, rest, more, same) }

-- the pages with the tree of the new table at its place, and its row in the schema
record Made (old new : Pages) (schema : Tree) (trunks : List Trunk) (front back : List ℕ) (before behind : List Tree) (number : ℕ) (edit : Shown → Shown) : Type 0 where
  schema' : Tree
  trunks' : List Trunk
  whole : IsWholeFor new (1 ∷ (front ++ number ∷ back)) (schema' ∷ (before ++ Leaf number [] ∷ behind)) trunks'
  frame : Frame old new (named_pages (1 ∷ (front ++ back)) (schema ∷ (before ++ behind)) trunks)
      (named_pages (1 ∷ (front ++ number ∷ back)) (schema' ∷ (before ++ Leaf number [] ∷ behind)) trunks')
  bound : Bound 1 old new (1 ∷ (front ++ back)) (schema ∷ (before ++ behind)) trunks (1 ∷ (front ++ number ∷ back)) (schema' ∷ (before ++ Leaf number [] ∷ behind))
  rows : map shown (rows_of schema') ≡ edit (map shown (rows_of schema))
  least : 2 ≤ number
  most : number ≤ new.size

made : PagesAddUp → RootRemoved → OneTree → WholeFront → (old mid put new : Pages) (schema : Tree) (trunks : List Trunk) (front back : List ℕ) (before behind : List Tree) (number : ℕ)
    (edit : Shown → Shown) → length front ≡ length before → length back ≡ length behind → IsWholeFor old (1 ∷ (front ++ back)) (schema ∷ (before ++ behind)) trunks
    → Adds old mid number → Edits 1 mid put 1 edit → CookieChanges put new → Made old new schema trunks front back before behind number edit
made add_up removed one_tree to_front old mid put new schema trunks front back before behind number edit long long' whole adds edits cookie =
    let leaf : Tree = Leaf number [] in
    let roots : List ℕ = front ++ back in
    let trees : List Tree = before ++ behind in
    let both : length roots ≡ length trees = omega (arith, long, long', length-append front back, length-append before behind) in
    let rooted = whole.each_tree.0.rooted in
    let first = adds (1 ∷ roots) (schema ∷ trees) trunks whole in
    let second = edits (1 ∷ (roots ++ number ∷ [])) [] (trees ++ leaf ∷ []) schema first.trunks' first.whole rooted in
    let schema' : Tree = second.tree' in
    let last = cookie_whole to_front put new (1 ∷ (roots ++ number ∷ [])) (schema' ∷ (trees ++ leaf ∷ [])) second.trunks' second.change.whole cookie in
    let moved = whole_moved new (1 ∷ front) back number (schema' ∷ before) behind leaf second.trunks' (ap suc long) long' last.0 in
    let N : List ℕ = named_pages (1 ∷ roots) (schema ∷ trees) trunks in
    let N' : List ℕ = named_pages (1 ∷ (roots ++ number ∷ [])) (schema' ∷ (trees ++ leaf ∷ [])) second.trunks' in
    let frames = two_frames old put new N N' N' (two_frames old mid put N (named_pages (1 ∷ (roots ++ number ∷ [])) (schema ∷ (trees ++ leaf ∷ [])) first.trunks') N' first.frame second.change.frame) last.1 in
    -- the bound is that of the put over the other roots, where nothing names the page of the new one
    let left = beside add_up removed old mid number roots schema trees trunks both first in
    let third = edits (1 ∷ roots) [] trees schema first.trunks' left.whole rooted in
    let same : third.tree' ≡ schema' = one_tree put third.tree' schema' third.change.whole.each_tree.0.held second.change.whole.each_tree.0.held (third.rooted ∙ sym second.rooted) in
    let B : Tree → Type 0 = λ t. Bound 1 mid put (1 ∷ roots) (schema ∷ trees) first.trunks' (1 ∷ roots) (t ∷ trees) in
    let bound = subst B same third.change.bound in
    let more = one_more_used roots (schema' ∷ trees) number in
    let use' = moved_use (1 ∷ front) back number (schema' ∷ before) behind leaf in
    let there = (zip_at (IsWholeTree new) (1 ∷ roots) (number ∷ []) (schema' ∷ trees) (leaf ∷ []) (ap suc both) last.0.each_tree).1.0.held.1.there in
    let other = not_first mid roots schema trees number first.trunks' first.whole in
    record {
      schema' = schema';
      trunks' = second.trunks';
      whole = moved;
      frame = frame_alike old new N N' N (named_pages (1 ∷ (front ++ number ∷ back)) (schema' ∷ (before ++ leaf ∷ behind)) second.trunks') (λ n. refl)
          (λ n. sym (moved_named (1 ∷ front) back number (schema' ∷ before) behind leaf second.trunks' n)) frames;
      bound = omega (arith, bound, first.bound, left.missing, more, use', cookie.size, some_used roots schema' trees);
      rows = second.rows;
      least = above_one number there.least other;
      most = there.most;
    }
  where
    above_one : (n : ℕ) → 1 ≤ n → n ≢ 1 → 2 ≤ n
    above_one n some other = grind (arith, some, other)

-- the rows of the schema with that of the new table
record RowsWith (old : Pages) (book : Book) (is : IsBookOf old book) (name : Name) (columns : List Name) (number size : ℕ) (f f' : List (Option Found)) (e e' : List Stored) (entry : Stored) : Type 0 where
  r : List (List Value)
  r' : List (List Value)
  records : AllZip (λ row values. IsRecord row.payload values) (e ++ entry ∷ e') (r ++ entry_values name columns number ∷ r')
  five : AllByRecursion IsSchemaRow (r ++ entry_values name columns number ∷ r')
  within : AllByRecursion (HasRootWithin size) (r ++ entry_values name columns number ∷ r')
  plain : AllZip (IsTableOf size (r ++ entry_values name columns number ∷ r')) (r ++ entry_values name columns number ∷ r') (f ++ Some (new_table name columns number) ∷ f')
  foreign : foreign_in is.rows is.found ≡ foreign_in (r ++ entry_values name columns number ∷ r') (f ++ Some (new_table name columns number) ∷ f')
  apart : AllByRecursion (λ (other : Found). other.create.name ≢ name) (tables_in is.found)

rows_with : OneRecord → RowsRise → (old : Pages) (book : Book) (is : IsBookOf old book) (name : Name) (columns : List Name) (number size : ℕ) (f f' : List (Option Found)) (e e' : List Stored)
    (entry : Stored) → rows_of is.schema ≡ e ++ e' → is.found ≡ f ++ f' → length f ≡ length e → is_taken book name ≡ false → IsPlain (record { name = name; columns = columns }) → 2 ≤ number
    → number ≤ size → old.size ≤ size → IsRecord entry.payload (entry_values name columns number) → RowsWith old book is name columns number size f f' e e' entry
rows_with one rises old book is name columns number size f f' e e' entry stored found_are long taken plain least most grown is_record =
    let R : Stored → List Value → Type 0 = λ row values. IsRecord row.payload values in
    let v : List Value = entry_values name columns number in
    let split = zip_split R e e' is.rows (subst (λ s. AllZip R s is.rows) stored is.whole.schema_rows) in
    let r : List (List Value) = split.front in
    let r' : List (List Value) = split.back in
    let rows : List (List Value) = r ++ r' in
    let rows' : List (List Value) = r ++ v ∷ r' in
    let none = none_taken one name book below_all (rows_of is.schema) is.rows (rises old 1 is.schema is.whole.whole.each_tree.0) is.schema_is is.whole.schema_rows is.whole.five taken in
    let alone = on_with r r' (entry_more name columns number) name (subst (λ l. AllByRecursion (λ other. ¬ (IsOn other name)) l) split.is (none_on name is.rows none)) in
    let same : length r ≡ length f = split.long ∙ sym long in
    let grows = plain_grows old.size size is.rows is.rows is.found grown is.whole.roots_within is.whole.plain in
    let old_plain : AllZip (IsTableOf size rows) rows (f ++ f') = subst (λ g. AllZip (IsTableOf size rows) rows g) found_are (subst (λ l. AllZip (IsTableOf size l) l is.found) split.is grows) in
    let over = zip_at (IsTableOf size rows') r r' f f' same
    (rows_over size rows rows' rows (f ++ f') (on_with r r' (entry_more name columns number)) (on_without r r' v) old_plain) in
    let five = all_at IsSchemaRow r r' (subst (AllByRecursion IsSchemaRow) split.is is.whole.five) in
    let within = all_at (HasRootWithin size) r r' (subst (AllByRecursion (HasRootWithin size)) split.is (roots_grow old.size size is.rows grown is.whole.roots_within)) in
    record {
      r = r;
      r' = r';
      records = zip_append R e (entry ∷ e') r (v ∷ r') split.before (is_record, split.behind);
      five = all_append IsSchemaRow r (v ∷ r') five.0 (entry_five name columns number, five.1);
      within = all_append (HasRootWithin size) r (v ∷ r') within.0 (entry_within size name columns number most, within.1);
      plain = zip_append (IsTableOf size rows') r (v ∷ r') f (Some (new_table name columns number) ∷ f') over.0 (entry_plain size rows' name columns number plain least most alone, over.1);
      foreign = ap₂ foreign_in split.is found_are ∙ sym (foreign_without r r' v f f' (new_table name columns number) (sym same));
      apart = other_names old.size is.rows is.rows is.found name is.whole.plain none;
    }

roots_long : (found : List Found) → length (map (λ (table : Found). table.root) found) ≡ length found
roots_long [] = refl
roots_long (f ∷ found) = ap suc (roots_long found)

shown_append : (e e' : List Stored) → map shown (e ++ e') ≡ map shown e ++ map shown e'
shown_append e e' = map_append shown e e'

-- the book then, and the pages that there are, with the page at the root of the schema counted once
pub record MadeBook (new : Pages) (book : Book) (name : Name) (columns : List Name) (number : ℕ) : Type 0 where
  pub becomes : Becomes book new (with_table book name columns number)
  pub tight : new.size + 1 ≤ max (book.pages + 1) (length book.unnamed + use_of book + use_of (record (with_table book name columns number) { pages = new.size; free = becomes.free }))

made_book : BookCounts → UseWithinNeed → PagesAddUp → (page_size : ℕ) (old new : Pages) (book : Book) (is : IsBookOf old book) (name : Name) (columns : List Name) (number : ℕ) (payload : List ℕ)
    (at : PutBetween (next_entry book) payload (rows_of is.schema)) (split : TablesSplit at.e at.e' is.found is.trees is.tables)
    (step : Made old new is.schema is.trunks (roots_in split.f) (roots_in split.f') split.t split.t' number (put_shown (next_entry book, payload))) → RowsWith old book is name columns number new.size split.f split.f' at.e at.e' (any_row (next_entry book) payload)
    → IsRecord payload (entry_values name columns number) → length payload ≡ record_size (entry_values name columns number) → AreSized page_size new
    → MadeBook new book name columns number
made_book counts within add_up page_size old new book is name columns number payload at split step row is_record size sized =
    let key : ℤ = next_entry book in
    let entry : Stored = any_row key payload in
    let found' : List (Option Found) = split.f ++ Some (new_table name columns number) ∷ split.f' in
    let leaf : Tree = Leaf number [] in
    let trees' : List Tree = split.t ++ leaf ∷ split.t' in
    let table : Table = record { columns = columns; entry = key; rows = map.empty } in
    let tables' : List (Name × Table) = split.b ++ (name, table) ∷ split.b' in
    let roots_are : roots_in is.found ≡ roots_in split.f ++ roots_in split.f' = ap roots_in split.found_are ∙ roots_append split.f split.f' in
    let roots_then : roots_in split.f ++ number ∷ roots_in split.f' ≡ roots_in found' = sym (roots_append split.f (Some (new_table name columns number) ∷ split.f')) in
    let N : List ℕ → List Tree → List ℕ = λ r t. named_pages (1 ∷ r) (is.schema ∷ t) is.trunks in
    let named' : List ℕ → List ℕ = λ r. named_pages (1 ∷ r) (step.schema' ∷ trees') step.trunks' in
    let frame : Frame old new (N (roots_in is.found) is.trees) (named' (roots_in found')) =
    subst (λ r. Frame old new (N (roots_in is.found) is.trees) (named' r)) roots_then
    (subst (λ (l : List ℕ). Frame old new l (named' (roots_in split.f ++ number ∷ roots_in split.f'))) (sym (ap₂ N roots_are split.trees_are)) step.frame) in
    let B : List ℕ → List Tree → List ℕ → Type 0 = λ r t r'. Bound 1 old new (1 ∷ r) (is.schema ∷ t) is.trunks (1 ∷ r') (step.schema' ∷ trees') in
    let bound : B (roots_in is.found) is.trees (roots_in found') =
    subst (B (roots_in is.found) is.trees) roots_then (subst (λ t. B (roots_in is.found) t (roots_in split.f ++ number ∷ roots_in split.f')) (sym split.trees_are)
    (subst (λ r. B r (split.t ++ split.t') (roots_in split.f ++ number ∷ roots_in split.f')) (sym roots_are) step.bound)) in
    let shows : map shown (at.e ++ entry ∷ at.e') ≡ map shown (rows_of step.schema') = shown_append at.e (entry ∷ at.e') ∙ sym at.put ∙ sym step.rows in
    let has = rows_put 5 (rows_of is.schema) (rows_of step.schema') book.schema key payload (entry_values name columns number) is_record refl size step.rows is.schema_is in
    let is_table : IsTable entry (new_table name columns number) leaf name table = record { named = refl; columns = refl; entry_is = refl; rows = record { contents = []; each = tt; is = refl } } in
    let each = append_tables at.e (entry ∷ at.e') split.f (Some (new_table name columns number) ∷ split.f') split.t (leaf ∷ split.t') split.b ((name, table) ∷ split.b') split.front (is_table, split.back) in
    let parts = subst (λ f. AllByRecursion (λ (other : Found). other.create.name ≢ name) (tables_in f)) split.found_are row.apart in
    let apart = subst (AllByRecursion (λ (other : Found). other.create.name ≢ name)) (tables_append split.f split.f') parts in
    let keys = keys_apart name at.e split.f split.t split.b split.front (all_at (λ (other : Found). other.create.name ≢ name) (tables_in split.f) (tables_in split.f') apart).0 in
    let records = zip_at HasRecords (tables_in split.f) (tables_in split.f') split.t split.t' (as_many at.e split.f split.t split.b split.front)
    (subst (λ (l : List Found). AllZip HasRecords l (split.t ++ split.t')) (tables_append split.f split.f')
    (subst (λ f. AllZip HasRecords (tables_in f) (split.t ++ split.t')) split.found_are (subst (λ t. AllZip HasRecords (tables_in is.found) t) split.trees_are is.whole.records))) in
    let after : Book = record (with_table book name columns number) { pages = new.size; free = length (free_pages step.trunks') } in
    let is' : IsBookOf new after = record {
      schema = step.schema';
      rows = row.r ++ entry_values name columns number ∷ row.r';
      found = found';
      trees = trees';
      trunks = step.trunks';
      whole = record {
        whole = subst (λ r. IsWholeFor new (1 ∷ r) (step.schema' ∷ trees') step.trunks') roots_then step.whole;
        schema_rows = same_records (at.e ++ entry ∷ at.e') (rows_of step.schema') (row.r ++ entry_values name columns number ∷ row.r') shows row.records;
        five = row.five;
        roots_within = row.within;
        plain = row.plain;
        once = subst NamesDiffer (sym (tables_append split.f (Some (new_table name columns number) ∷ split.f'))) (names_with (new_table name columns number) (tables_in split.f) (tables_in split.f')
            (subst NamesDiffer (tables_append split.f split.f') (subst (λ f. NamesDiffer (tables_in f)) split.found_are is.whole.once)) apart);
        records = subst (λ (l : List Found). AllZip HasRecords l trees') (sym (tables_append split.f (Some (new_table name columns number) ∷ split.f')))
            (zip_append HasRecords (tables_in split.f) (new_table name columns number ∷ tables_in split.f') split.t (leaf ∷ split.t') records.0 (tt, records.1));
      };
      tables = tables';
      each = same_tables (at.e ++ entry ∷ at.e') (rows_of step.schema') found' trees' tables' shows each;
      tables_are = ap (λ m. map.insert m name table) (is.tables_are ∙ ap (λ (l : List (Name × Table)). map.from_entries {R = slice_cmp nat_cmp} l) split.tables_are)
          ∙ sym (map_inserted (slice_cmp nat_cmp) nat_list_cmp_total (slice_cmp-IsAntisymmetric nat_cmp-IsAntisymmetric) name table split.b split.b' keys);
      foreign_are = is.foreign_are ∙ ap once row.foreign;
      schema_is = has;
      unnamed_are = is.unnamed_are ∙ unnamed_same old new (N (roots_in is.found) is.trees) (named' (roots_in found')) frame;
      counter_is = is.counter_is ∙ sym frame.counter;
      pages_are = refl;
      free_are = refl;
      page_is = is.page_is ∙ sym frame.page;
      usable_is = is.usable_is ∙ sym frame.usable;
    } in
    record {
      becomes = record {
        free = length (free_pages step.trunks');
        is_book = is';
        sized = is_sized counts within add_up 1 page_size old new book after sized is is' frame.no_fewer bound;
      };
      tight = is_tight counts 1 old new book after is is' bound;
    }

pub table_made : BookCounts → UseWithinNeed → PagesAddUp → RootRemoved → OneTree → WholeFront → RowsRise → OneRecord → (page_size : ℕ) (old mid put new : Pages) (book : Book) (is : IsBookOf old book)
    (name : Name) (columns : List Name) (number : ℕ) (payload : List ℕ) → is_taken book name ≡ false → IsPlain (record { name = name; columns = columns })
    → IsRecord payload (entry_values name columns number) → length payload ≡ record_size (entry_values name columns number) → is_there (row_at (next_entry book) (rows_of is.schema)) ≡ false
    → Adds old mid number → Edits 1 mid put 1 (put_shown (next_entry book, payload)) → CookieChanges put new → AreSized page_size new
    → MadeBook new book name columns number
table_made counts within add_up removed one_tree to_front rises one page_size old mid put new book is name columns number payload taken plain is_record size none adds edits cookie sized =
    let key : ℤ = next_entry book in
    let at = put_between key payload (rows_of is.schema) none in
    let split = split_tables at.e at.e' is.found is.trees is.tables (subst (λ s. AreTables s is.found is.trees is.tables) at.is is.each) in
    let roots_are : roots_in is.found ≡ roots_in split.f ++ roots_in split.f' = ap roots_in split.found_are ∙ roots_append split.f split.f' in
    let W : List ℕ → List Tree → Type 0 = λ r t. IsWholeFor old (1 ∷ r) (is.schema ∷ t) is.trunks in
    let whole = subst (λ r. W r (split.t ++ split.t')) roots_are (subst (W (roots_in is.found)) split.trees_are is.whole.whole) in
    let step = made add_up removed one_tree to_front old mid put new is.schema is.trunks (roots_in split.f) (roots_in split.f') split.t split.t' number (put_shown (key, payload))
    (roots_long (tables_in split.f) ∙ as_many at.e split.f split.t split.b split.front) (roots_long (tables_in split.f') ∙ as_many at.e' split.f' split.t' split.b' split.back) whole adds edits cookie in
    let row = rows_with one rises old book is name columns number new.size split.f split.f' at.e at.e' (any_row key payload) at.is split.found_are (as_long at.e split.f split.t split.b split.front) taken plain
    step.least step.most step.frame.no_fewer is_record in
    made_book counts within add_up page_size old new book is name columns number payload at split step row is_record size sized
