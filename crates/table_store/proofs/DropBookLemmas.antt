-- A table dropped, where the pages have a book.
use Rattle.std.proofs.Common.{◌≡◌, inl, inr, ℕ, suc, ◌≤◌, ℤ, Bool, List, [], ◌∷◌, ◌++◌, length, Some, None, IsTrue, sym, ap, subst, ◌∙◌, arith}
use Rattle.std.specs.List.{Contains}
use Rattle.page_list.specs.Pages.{Pages, HasPage, IsGood, AreSized}
use Rattle.page_list.specs.Freelist.{Trunk}
use Rattle.page_pool.specs.Space.{SpaceState, Steady}
use Rattle.payload_chain.specs.Chains.{Midway, midway}
use Rattle.db_format.specs.Create.{OneCreate}
use Rattle.db_format.specs.Schema.{Table as Found, tables_in}
use Rattle.db_format.specs.declared.plain.PlainTable.{PlainTable}
use Rattle.db_format.specs.declared.fault.SpaceFault.{SpaceFault}
use Rattle.db_format.specs.declared.fault.SpaceFault.TheVariants.{Failed, Memory, Bad, Corrupt, Large}
use Rattle.tree_model.specs.Tree.{Tree, rows_of}
use Rattle.tree_model.specs.Whole.{IsWholeFor}
use Rattle.tree_search.specs.Search.{IsNoDamage}
use Rattle.tree_laws.specs.Front.{FreelistFront, FrontKept}
use Rattle.tree_free.specs.Free.{RemovesRoot, TreeRefused, IsRootFreed, IsSoundlyRefused as IsTreeSoundlyRefused}
use Rattle.rowid_tree.specs.Puts.{HasWholeTree}
use Rattle.rowid_tree.specs.Removes.{RemovesRow, IsTooLargeWithout}
use Rattle.book_model.specs.Book.{Name, Book, table_at}
use Rattle.book_model.specs.Pages.{IsBookOf, IsBook}
use Rattle.book_reads.specs.Reads.{SchemaMeets}
use Rattle.book_reads.specs.Laws.{SchemaRead, TablesRead}
use Rattle.book_changes.specs.Tables.{TableDropped, LargeDrop}
use Rattle.book_changes.proofs.TableLemmas.{as_many, table_at as place_of}
use Rattle.book_changes.proofs.ChangeLemmas.{roots_in, roots_append}
use Rattle.book_changes.proofs.DropLemmas.{roots_long}
use Rattle.table_store.specs.declared.fault.TableFault.{TableFault}
use Rattle.table_store.specs.declared.fault.TableFault.TheVariants.{NoTable, Foreign, Exists, Columns, TooLong, Space}
use Rattle.table_store.specs.Books.{StandsFor, OfBook}
use Rattle.table_store.specs.Changed.{NoDamage}
use Rattle.table_store.specs.Cookie.{next_cookie, cookie_of, CookieRefused}
use Rattle.table_store.specs.Dropped.{FindsEntry, EntryFound, EntryTaken, DropDone, DropFails, BookDropped, DropsTooMuch, BookDropFails}
use Rattle.table_store.proofs.BookLemmas.{book_refused, undamaged}
use Rattle.table_store.proofs.ChangedLemmas.{is_one, no_pages, stands_with, no_damage, past_removal, soundly}
use Rattle.table_store.proofs.FrontLemmas.{cookie_stays}
use Rattle.table_store.proofs.CookieLemmas.{cookie_changes, cookie_next}

-- ---- the table, and its row in the schema

record EntryInBook (pages : Pages) (book : Book) (is : IsBookOf pages book) (name : Name) (root : ℕ) (entry : ℤ) : Type 0 where
  one : Found
  among : Contains (tables_in is.found) one
  rooted : root ≡ one.root
  stands : StandsFor book name one.create.name
  entered : entry ≡ (table_at book one.create.name).entry

entry_in : OneCreate → SchemaRead → TablesRead → (pages : Pages) (book : Book) (is : IsBookOf pages book) (name : Name) (root : ℕ) (entry : ℤ) → FindsEntry pages name root entry
    → EntryInBook pages book is name root entry
entry_in create schema read pages book is name root entry f =
    let it = is_one create schema pages book is name f.table f.finds in
    let called : f.table.name ≡ it.one.create.name = ap (λ (t : PlainTable). t.name) it.is in
    record {
      one = it.one;
      among = it.among;
      rooted = f.rooted ∙ ap (λ (t : PlainTable). t.root) it.is;
      stands = subst (StandsFor book name) called (stands_with read 0 pages book name f.table (inr is) f.finds).0;
      entered = sym (read.entry 0 pages book f.rows (inr is) f.has f.table.name entry f.is_entry) ∙ ap (λ n. (table_at book n).entry) called;
    }

-- ---- whole pages on the way

whole_schema : (pages : Pages) (book : Book) → IsBookOf pages book → HasWholeTree pages 1
whole_schema pages book is = record {
  roots = 1 ∷ roots_in is.found;
  before = [];
  tree = is.schema;
  behind = is.trees;
  trunks = is.trunks;
  whole = is.whole.whole;
  rooted = is.whole.whole.each_tree.0.rooted;
}

-- once the row is out of the schema, the tree is still one of those of whole pages
record RowGone (old taken : Pages) (root : ℕ) : Type 0 where
  front : List ℕ
  back : List ℕ
  before : List Tree
  behind : List Tree
  tree : Tree
  trunks : List Trunk
  long : length front ≡ length before
  whole : IsWholeFor taken (front ++ root ∷ back) (before ++ tree ∷ behind) trunks
  header : FreelistFront old taken
  no_fewer : old.size ≤ taken.size

row_gone : (old taken : Pages) (book : Book) (is : IsBookOf old book) (one : Found) → Contains (tables_in is.found) one → (entry : ℤ) (removed : Bool) → RemovesRow old taken 1 entry removed → RowGone old taken one.root
row_gone old taken book is one among entry removed removes =
    let at = place_of (rows_of is.schema) is.found is.trees is.tables one is.each among.0 among.1 among.2 in
    let gone = removes.each (1 ∷ roots_in is.found) [] is.trees is.schema is.trunks is.whole.whole is.whole.whole.each_tree.0.rooted in
    let W : List ℕ → List Tree → Type 0 = λ r t. IsWholeFor taken (1 ∷ r) (gone.tree' ∷ t) gone.trunks' in
    let roots_are : roots_in is.found ≡ roots_in at.f ++ one.root ∷ roots_in at.f' = ap roots_in at.found_are ∙ roots_append at.f (Some one ∷ at.f') in
    record {
      front = 1 ∷ roots_in at.f;
      back = roots_in at.f';
      before = gone.tree' ∷ at.t;
      behind = at.t';
      tree = at.tree;
      trunks = gone.trunks';
      long = ap suc (roots_long (tables_in at.f) ∙ as_many at.e at.f at.t at.b at.front);
      whole = subst (λ r. W r (at.t ++ at.tree ∷ at.t')) roots_are (subst (W (roots_in is.found)) at.trees_are gone.whole);
      header = gone.front;
      no_fewer = gone.no_fewer;
    }

-- what the steps so far leave, said of the pages before
record Taken (old : SpaceState) (taken : Midway) (book : Book) (is : IsBookOf old.pages book) (name : Name) (root : ℕ) (entry : ℤ) : Type 0 where
  it : EntryInBook old.pages book is name root entry
  removed : Bool
  removes : RemovesRow old.pages taken.pages 1 (table_at book it.one.create.name).entry removed
  gone : RowGone old.pages taken.pages it.one.root

taken_in : OneCreate → SchemaRead → TablesRead → (old : SpaceState) (taken : Midway) (book : Book) (is : IsBookOf old.pages book) (name : Name) (root : ℕ) (entry : ℤ) → IsTrue old.tells
    → EntryTaken old taken name root entry → Taken old taken book is name root entry
taken_in create schema read old taken book is name root entry t e =
    let it = entry_in create schema read old.pages book is name root entry (e.found.is t) in
    let R : Pages → ℤ → Type 0 = λ pages key. RemovesRow pages taken.pages 1 key e.removed in
    let removes : RemovesRow old.pages taken.pages 1 (table_at book it.one.create.name).entry e.removed =
    subst (R old.pages) it.entered (subst (λ (pages : Pages). R pages entry) (e.found.stays.pages_stay t) (e.removes t)) in
    record { it = it; removed = e.removed; removes = removes; gone = row_gone old.pages taken.pages book is it.one it.among (table_at book it.one.create.name).entry e.removed removes }

tree_gone : (taken given : Pages) (old : Pages) (root : ℕ) → (g : RowGone old taken root) → RemovesRoot taken given root → IsRootFreed taken given g.front g.back root g.before g.behind g.tree g.trunks
tree_gone taken given old root g gives = gives g.front g.back g.before g.behind g.tree g.trunks g.long g.whole

-- ---- a table dropped

no_pages_found : (old : SpaceState) (met : Midway) (name : Name) (root : ℕ) (entry : ℤ) → IsTrue old.tells → EntryFound old met name root entry → ¬ (old.pages.size ≡ 0)
no_pages_found old met name root entry t f = no_pages old.pages name (f.is t).table (f.is t).finds

pub book_dropped : OneCreate → SchemaRead → TablesRead → TableDropped → FrontKept → (old new : SpaceState) (name : Name) → IsTrue old.tells → Steady old new → DropDone old new name
    → OfBook old.pages (λ book. BookDropped old new book name)
book_dropped create schema read law kept old new name t steady p = record { each = by }
  where
    by : (page_size : ℕ) (book : Book) → IsBook page_size old.pages book → BookDropped old new book name
    by page_size book (inl none) = absurd (no_pages_found old p.before.before.met name p.root p.entry t p.before.before.found none.0)
    by page_size book (inr is) =
        let taken = taken_in create schema read old p.before.taken book is name p.root p.entry t p.before.before in
        let one = taken.it.one in
        let there = is.whole.whole.header.there in
        let G : ℕ → Type 0 = RemovesRoot p.before.taken.pages p.given.pages in
        let gives : RemovesRoot p.before.taken.pages p.given.pages one.root = subst G taken.it.rooted (p.before.gives t) in
        let freed = tree_gone p.before.taken.pages p.given.pages old.pages one.root taken.gone gives in
        let more = taken.gone.no_fewer in
        let sized : AreSized new.page_size new.pages = steady.sizes.each (steady.told ∙ t) in
        let first : cookie_of p.before.taken.pages ≡ cookie_of old.pages = cookie_stays kept old.pages p.before.taken.pages there taken.gone.no_fewer taken.gone.header in
        let has : HasPage p.before.taken.pages 1 = record { least = omega arith; most = omega (arith, there.most, more) } in
        let second : cookie_of p.given.pages ≡ cookie_of p.before.taken.pages = cookie_stays kept p.before.taken.pages p.given.pages has (omega (arith, freed.size)) freed.front in
        record {
          own = one.create.name;
          stands = taken.it.stands;
          becomes = law new.page_size old.pages p.before.taken.pages p.given.pages new.pages book is one taken.removed taken.it.among taken.removes gives
              (cookie_changes new.page_size (midway old p.given) new t sized p.raised) sized;
          cookie = cookie_next new.page_size (midway old p.given) new t sized p.raised ∙ ap next_cookie (second ∙ first);
          change = p.raised.change;
        }

-- ---- a table not dropped

no_fault : (fault : SpaceFault) (Past : ℕ → Type 0) (old new : SpaceState) (root : ℕ) → TreeRefused old new root fault → IsNoDamage fault → NoDamage Past fault
no_fault Failed Past old new root refused none = tt
no_fault Memory Past old new root refused none = tt
no_fault (Bad page kept found) Past old new root refused none = none
no_fault (Corrupt page) Past old new root refused none = none
no_fault (Large pages) Past old new root (inl refused) none = absurd refused.1
no_fault (Large pages) Past old new root (inr stops) none = absurd stops.refused

pub not_bad : (sums : ℕ × ℕ) → ¬ (None ≡ Some sums)
not_bad sums e = cc

pub cookie_fault : (fault : SpaceFault) (Past : ℕ → Type 0) (old new : SpaceState) → IsTrue old.tells → IsGood old.pages 1 → CookieRefused old new fault → NoDamage Past fault
cookie_fault Failed Past old new t good refused = tt
cookie_fault Memory Past old new t good refused = tt
cookie_fault (Bad page kept found) Past old new t good refused = let sums : ℕ × ℕ = (kept, found) in not_bad sums (sym good ∙ refused.1.1 t)
cookie_fault (Corrupt page) Past old new t good refused = absurd refused.1
cookie_fault (Large pages) Past old new t good refused = absurd refused.1

pub drop_clean : OneCreate → SchemaRead → TablesRead → LargeDrop → (old new : SpaceState) (name : Name) (fault : TableFault) → IsTrue old.tells → DropFails old new name fault
    → OfBook old.pages (λ book. BookDropFails old.page_size book name fault)
drop_clean create schema read large old new name NoTable t is =
    record { each = (book_refused schema read old new name (λ _ _. ⊥) NoTable t (λ page_size book table f found none. none) is.1).each }
drop_clean create schema read large old new name Foreign t is =
    record { each = (book_refused schema read old new name (λ _ _. ⊥) Foreign t (λ page_size book table f found none. none) is.1).each }
drop_clean create schema read large old new name Exists t is = absurd is
drop_clean create schema read large old new name Columns t is = absurd is
drop_clean create schema read large old new name TooLong t is = absurd is
drop_clean create schema read large old new name (Space fault) t (inl is) = record {
  each = λ page_size book b.
      no_damage (DropsTooMuch old.page_size book name) old new (SchemaMeets old.pages) fault is.1 (undamaged old new (SchemaMeets old.pages) fault t (schema.no_fault page_size old.pages book b) is.1);
}
drop_clean create schema read large old new name (Space fault) t (inr (inl p)) = record { each = by }
  where
    by : (page_size : ℕ) (book : Book) → IsBook page_size old.pages book → NoDamage (DropsTooMuch old.page_size book name) fault
    by page_size book (inl none) = absurd (no_pages_found old p.met name p.root p.entry t p.found none.0)
    by page_size book (inr is) =
        let it = entry_in create schema read old.pages book is name p.root p.entry (p.found.is t) in
        let same = p.found.stays.pages_stay t in
        let tree : HasWholeTree p.met.pages 1 = subst (λ (pages : Pages). HasWholeTree pages 1) (sym same) (whole_schema old.pages book is) in
        past_removal (DropsTooMuch old.page_size book name) p.met.pages 1 p.entry old.page_size fault (soundly p.met.pages 1 fault tree (p.clean t)) (p.large t)
        (λ n much.
        let L : Pages → ℤ → Type 0 = λ pages key. IsTooLargeWithout pages 1 key old.page_size n in
        let there : IsTooLargeWithout old.pages 1 (table_at book it.one.create.name).entry old.page_size n = subst (L old.pages) it.entered (subst (λ (pages : Pages). L pages p.entry) same much) in
        record {
          own = it.one.create.name;
          stands = it.stands;
          past = record { passes = much.passes; least = much.least; within = large old.page_size n old.pages book is it.one it.among there };
        })
drop_clean create schema read large old new name (Space fault) t (inr (inr (inl p))) = record { each = by }
  where
    by : (page_size : ℕ) (book : Book) → IsBook page_size old.pages book → NoDamage (DropsTooMuch old.page_size book name) fault
    by page_size book (inl none) = absurd (no_pages_found old p.before.met name p.root p.entry t p.before.found none.0)
    by page_size book (inr is) =
        let taken = taken_in create schema read old p.taken book is name p.root p.entry t p.before in
        let g = taken.gone in
        let C : ℕ → Type 0 = λ root. IsTreeSoundlyRefused p.taken.pages root fault in
        let clean : IsTreeSoundlyRefused p.taken.pages taken.it.one.root fault = subst C taken.it.rooted (p.clean t) in
        no_fault fault (DropsTooMuch old.page_size book name) (midway old p.taken) new p.root p.refused (clean.each g.front g.back g.before g.behind g.tree g.trunks g.long g.whole)
drop_clean create schema read large old new name (Space fault) t (inr (inr (inr p))) = record { each = by }
  where
    by : (page_size : ℕ) (book : Book) → IsBook page_size old.pages book → NoDamage (DropsTooMuch old.page_size book name) fault
    by page_size book (inl none) = absurd (no_pages_found old p.before.before.met name p.root p.entry t p.before.before.found none.0)
    by page_size book (inr is) =
        let taken = taken_in create schema read old p.before.taken book is name p.root p.entry t p.before.before in
        let G : ℕ → Type 0 = RemovesRoot p.before.taken.pages p.given.pages in
        let freed = tree_gone p.before.taken.pages p.given.pages old.pages taken.it.one.root taken.gone (subst G taken.it.rooted (p.before.gives t)) in
        cookie_fault fault (DropsTooMuch old.page_size book name) (midway old p.given) new t freed.whole.header.good p.refused
