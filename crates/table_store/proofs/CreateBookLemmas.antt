-- A table made, where the pages have a book.
use Rattle.std.proofs.Common.{◌≡◌, inl, inr, ℕ, ◌-◌, ◌≤◌, nat_eq, Bool, false, cond, ℤ, List, [], ◌∷◌, ◌++◌, map, reverse, IsTrue, refl, sym, ap, subst, ◌∙◌, arith}
use Rattle.std.specs.List.{flat_map}
use Rattle.std.specs.FinMap as map
use Rattle.page_list.specs.Pages.{Pages, IsGood, AreSized, word}
use Rattle.page_list.specs.Freelist.{take_each}
use Rattle.page_pool.specs.Space.{SpaceState, Steady}
use Rattle.payload_chain.specs.Chains.{Midway, midway}
use Rattle.db_format.specs.Create.{IsPlain}
use Rattle.db_format.specs.declared.create.Create.{Create}
use Rattle.db_format.specs.declared.value.Value.{Value}
use Rattle.tree_model.specs.Tree.{Leaf}
use Rattle.tree_laws.specs.Front.{FrontKept}
use Rattle.rowid_tree.specs.Puts.{PutsRow, HasWholeTree}
use Rattle.rowid_tree.specs.Roots.{AddsRoot}
use Rattle.book_model.specs.Book.{Name, Row, Book, empty_book, taken_by, is_taken, next_of, next_entry, with_table}
use Rattle.book_model.specs.Pages.{IsBookOf, IsBook}
use Rattle.book_model.specs.Laws.{RecordHasSize}
use Rattle.book_reads.specs.Reads.{HasSchema, is_named, shown_row}
use Rattle.book_reads.specs.Laws.{SchemaRead}
use Rattle.book_changes.specs.Changes.{Becomes}
use Rattle.book_changes.specs.First.{IsFirstPage, FirstPage, FirstTable}
use Rattle.book_changes.specs.Tables.{IsEntry, TableMade}
use Rattle.book_changes.proofs.ChangeLemmas.{roots_in}
use Rattle.table_store.specs.Books.{OfSpace}
use Rattle.table_store.specs.Cookie.{next_cookie, cookie_of, CookieRaised}
use Rattle.table_store.specs.Made.{taken_in, IsTakenIn, IsFreeIn, FirstMade, Begins, IsEntryRecord, MakeDone, BookMade}
use Rattle.table_store.proofs.FrontLemmas.{cookie_there, cookie_stays}
use Rattle.table_store.proofs.CookieLemmas.{cookie_changes, cookie_next}
use Rattle.table_store.proofs.EntrySizeLemmas.{entry_sized}

-- ---- the name, and the rowid of the row

taken_shown : (es : List (ℤ × Row)) → flat_map taken_by (map (λ (row : ℤ × List Value). row.1) (map shown_row es)) ≡ flat_map (λ (row : Row). taken_by row.values) (map (λ (e : ℤ × Row). e.1) es)
taken_shown [] = refl
taken_shown (e ∷ es) = ap (λ (l : List Name). taken_by e.1.values ++ l) (taken_shown es)

keys_shown : (es : List (ℤ × Row)) → map (λ (row : ℤ × List Value). row.0) (map shown_row es) ≡ map (λ (e : ℤ × Row). e.0) es
keys_shown [] = refl
keys_shown (e ∷ es) = ap (λ (l : List ℤ). e.0 ∷ l) (keys_shown es)

-- the names that the rows of the schema take are those that the book says
taken_is : SchemaRead → (page_size : ℕ) (pages : Pages) (book : Book) (name : Name) (rows : List (ℤ × List Value)) → IsBook page_size pages book → HasSchema pages rows
    → is_named (taken_in rows) name ≡ is_taken book name
taken_is read page_size pages book name rows is has =
    ap (λ (l : List (ℤ × List Value)). is_named (taken_in l) name) (read.rows page_size pages book is rows has) ∙ ap (λ (l : List Name). is_named l name) (taken_shown (map.entries book.schema))

pub name_taken : SchemaRead → (page_size : ℕ) (pages : Pages) (book : Book) (name : Name) → IsBook page_size pages book → IsTakenIn pages name → IsTrue (is_taken book name)
name_taken read page_size pages book name is f = subst IsTrue (taken_is read page_size pages book name f.rows is f.has) f.taken

pub record NewEntry (book : Book) (name : Name) (entry : ℤ) : Type 0 where
  pub free : is_taken book name ≡ false
  pub entry_is : entry ≡ next_entry book

pub new_entry : SchemaRead → (page_size : ℕ) (pages : Pages) (book : Book) (name : Name) (entry : ℤ) → IsBook page_size pages book → IsFreeIn pages name entry → NewEntry book name entry
new_entry read page_size pages book name entry is f = record {
  free = sym (taken_is read page_size pages book name f.rows is f.has) ∙ f.free;
  entry_is = f.entry_is ∙ ap (λ (l : List (ℤ × List Value)). next_of (reverse (map (λ row. row.0) l))) (read.rows page_size pages book is f.rows f.has)
      ∙ ap (λ (l : List ℤ). next_of (reverse l)) (keys_shown (map.entries book.schema));
}

-- ---- whole pages on the way

-- once there is a root more, the schema is still one of the trees of whole pages
pub rooted_schema : (begun rooted : Pages) (book : Book) (number : ℕ) → IsBookOf begun book → AddsRoot begun rooted number → HasWholeTree rooted 1
rooted_schema begun rooted book number is adds =
    let added = adds.each (1 ∷ roots_in is.found) (is.schema ∷ is.trees) is.trunks is.whole.whole in
    record {
      roots = (1 ∷ roots_in is.found) ++ number ∷ [];
      before = [];
      tree = is.schema;
      behind = is.trees ++ Leaf number [] ∷ [];
      trunks = take_each 1 is.trunks;
      whole = added.whole;
      rooted = is.whole.whole.each_tree.0.rooted;
    }

-- and once the row is put, page 1 is good, and the cookie stays
pub record EntryKeeps (begun entered : Pages) : Type 0 where
  pub good : IsGood entered 1
  pub cookie : cookie_of entered ≡ cookie_of begun

pub entry_keeps : FrontKept → (begun rooted entered : Pages) (book : Book) (number : ℕ) (entry : ℤ) (payload : List ℕ) (replaced : Bool) → IsBookOf begun book → AddsRoot begun rooted number
    → PutsRow rooted entered 1 entry payload replaced → EntryKeeps begun entered
entry_keeps kept begun rooted entered book number entry payload replaced is adds puts =
    let whole = is.whole.whole in
    let there = whole.header.there in
    let added = adds.each (1 ∷ roots_in is.found) (is.schema ∷ is.trees) is.trunks whole in
    let tree = rooted_schema begun rooted book number is adds in
    let put = puts.each tree.roots tree.before tree.behind tree.tree tree.trunks tree.whole tree.rooted in
    record {
      good = put.whole.header.good;
      cookie = cookie_stays kept rooted entered added.whole.header.there put.no_fewer put.front ∙ cookie_stays kept begun rooted there adds.no_fewer added.front;
    }

-- ---- a table made

-- the payload is the row that the book has then
pub entry_of : RecordHasSize → (table : Create) (number : ℕ) (payload : List ℕ) → IsPlain table → IsEntryRecord table number payload → IsEntry table.name table.columns number payload
entry_of has table number payload plain is = record {
  is_record = is.is_record;
  size = (entry_sized has table number payload plain is.bytes is.is_record is.shortest).is;
}

-- what the steps leave, whichever pages they begin with
record Made (old new : SpaceState) (table : Create) (begun : Pages) (entry : ℤ) : Type 0 where
  number : ℕ
  rooted : Pages
  entered : Midway
  payload : List ℕ
  replaced : Bool
  is : IsEntryRecord table number payload
  adds : AddsRoot begun rooted number
  puts : PutsRow rooted entered.pages 1 entry payload replaced
  raised : CookieRaised (midway old entered) new

cookie_made : FrontKept → (old new : SpaceState) (table : Create) (begun : Pages) (entry : ℤ) (book : Book) → IsTrue old.tells → AreSized new.page_size new.pages → IsBookOf begun book → Made old new table begun entry
    → cookie_of new.pages ≡ next_cookie (cookie_of begun)
cookie_made kept old new table begun entry book t sized is m =
    cookie_next new.page_size (midway old m.entered) new t sized m.raised
    ∙ ap next_cookie (entry_keeps kept begun m.rooted m.entered.pages book m.number entry m.payload m.replaced is m.adds m.puts).cookie

-- in pages that have a book
made_in : RecordHasSize → TableMade → FrontKept → (old new : SpaceState) (table : Create) (entry : ℤ) (book : Book) → IsPlain table → IsTrue old.tells → AreSized new.page_size new.pages → IsBookOf old.pages book
    → Made old new table old.pages entry → NewEntry book table.name entry → BookMade old new book table
made_in has law kept old new table entry book plain t sized is m name =
    let P : ℤ → Type 0 = λ key. PutsRow m.rooted m.entered.pages 1 key m.payload m.replaced in
    record {
      free = name.free;
      number = m.number;
      becomes = law new.page_size old.pages m.rooted m.entered.pages new.pages book table.name table.columns m.number m.payload m.replaced is name.free plain (entry_of has table m.number m.payload plain m.is)
          m.adds (subst P name.entry_is m.puts) (cookie_changes new.page_size (midway old m.entered) new t sized m.raised) sized;
      cookie = cookie_made kept old new table old.pages entry book t sized is m;
      change = m.raised.change;
    }

-- of no pages the cookie is 0, and so is that of the first page
first_cookie : (page reserved : ℕ) (old first : Pages) → old.size ≡ 0 → IsFirstPage page reserved first → cookie_of first ≡ cookie_of old
first_cookie page reserved old first none is =
    let some : 1 ≤ first.size = omega (arith, is.size) in
    cookie_there first some ∙ is.header.fields.schema_cookie ∙ sym (ap (λ n. cond (nat_eq n 0) 0 (word old 1 40)) none)

-- in no pages
made_first : RecordHasSize → FirstPage → FirstTable → FrontKept → (old new : SpaceState) (table : Create) (first : Pages) (entry : ℤ) (book : Book) → IsPlain table → IsTrue old.tells → AreSized new.page_size new.pages
    → (reserved : ℕ) → old.pages.size ≡ 0 → IsFirstPage old.page_size reserved first → book ≡ empty_book old.page_size first.usable → Made old new table first entry → NewEntry book table.name entry
    → BookMade old new book table
made_first has page law kept old new table first entry book plain t sized reserved none is are m name =
    let empty : Book = empty_book old.page_size first.usable in
    let P : ℤ → Type 0 = λ key. PutsRow m.rooted m.entered.pages 1 key m.payload m.replaced in
    let B : Book → Type 0 = λ b. Becomes b new.pages (with_table b table.name table.columns m.number) in
    record {
      free = name.free;
      number = m.number;
      becomes = subst B (sym are)
          (law new.page_size old.page_size reserved first m.rooted m.entered.pages new.pages table.name table.columns m.number m.payload m.replaced is plain (entry_of has table m.number m.payload plain m.is)
          m.adds (subst P (name.entry_is ∙ ap next_entry are) m.puts) (cookie_changes new.page_size (midway old m.entered) new t sized m.raised) sized);
      cookie = cookie_made kept old new table first entry _ t sized (page old.page_size reserved first is) m ∙ ap next_cookie (first_cookie old.page_size reserved old.pages first none is);
      change = m.raised.change;
    }

-- the pages where the steps begin: those that there were, or the first page
pub begun_same : (old : SpaceState) (met begun : Midway) → IsTrue old.tells → met.pages ≡ old.pages → ¬ (old.pages.size ≡ 0) → Begins (midway old met) (midway old begun) → begun.pages ≡ old.pages
begun_same old met begun t same some (inl there) = there.1.pages_stay t ∙ same
begun_same old met begun t same some (inr first) = absurd (some (sym (ap (λ (p : Pages). p.size) same) ∙ first.none))

pub begun_first : (old : SpaceState) (met begun : Midway) → met.pages ≡ old.pages → old.pages.size ≡ 0 → Begins (midway old met) (midway old begun) → FirstMade (midway old met) (midway old begun)
begun_first old met begun same none (inl there) = let size = ap (λ (p : Pages). p.size) same in absurd (omega (arith, size, there.0, none))
begun_first old met begun same none (inr first) = first

-- the book is that of no pages, with the usable size of the first page
pub record FirstBook (old : SpaceState) (begun : Pages) (book : Book) : Type 0 where
  pub reserved : ℕ
  pub is : IsFirstPage old.page_size reserved begun
  pub are : book ≡ empty_book old.page_size begun.usable

pub first_book : (old new : SpaceState) (met begun : Midway) (book : Book) → IsTrue old.tells → Steady old new → met.pages ≡ old.pages → book ≡ empty_book old.page_size old.pages.usable
    → FirstMade (midway old met) (midway old begun) → FirstBook old begun.pages book
first_book old new met begun book t steady same are made =
    let is = made.first t in
    let used : begun.pages.usable ≡ old.pages.usable =
    omega (arith, is.used, ap (λ (p : Pages). p.usable) same, steady.used, steady.sized, steady.sizes.most) in
    record { reserved = old.page_size - met.pages.usable; is = is; are = are ∙ ap (empty_book old.page_size) (sym used) }

-- the steps as they are
steps_of : (old new : SpaceState) (table : Create) (begun : Pages) → IsTrue old.tells → (p : MakeDone old new table) → p.before.before.begun.pages ≡ begun → Made old new table begun p.entry
steps_of old new table begun t p are =
    let put = p.before.put in
    let A : Pages → Type 0 = λ pages. AddsRoot pages p.before.rooted.pages p.number in
    record {
      number = p.number;
      rooted = p.before.rooted.pages;
      entered = p.entered;
      payload = put.payload;
      replaced = put.replaced;
      is = put.is;
      adds = subst A are (p.before.before.adds t);
      puts = put.puts t;
      raised = p.raised;
    }

pub book_made : SchemaRead → RecordHasSize → FirstPage → FirstTable → TableMade → FrontKept → (old new : SpaceState) (table : Create) → IsPlain table → IsTrue old.tells → Steady old new → MakeDone old new table
    → OfSpace old (λ book. BookMade old new book table)
book_made schema has page first law kept old new table plain t steady p = record { each = by }
  where
    by : (book : Book) → IsBook old.page_size old.pages book → BookMade old new book table
    by book b =
        let begun = p.before.before.before in
        let same = begun.free.stays.pages_stay t in
        let name = new_entry schema old.page_size old.pages book table.name p.entry b (begun.free.is t) in
        let sized : AreSized new.page_size new.pages = steady.sizes.each (steady.told ∙ t) in
        elim b as (λ _. BookMade old new book table) [
          | inl none ↦
              let made = begun_first old begun.met p.before.before.begun same none.0 begun.begins in
              let f = first_book old new begun.met p.before.before.begun book t steady same none.1 made in
              made_first has page first kept old new table p.before.before.begun.pages p.entry book plain t sized f.reserved none.0 f.is f.are (steps_of old new table p.before.before.begun.pages t p refl) name
          | inr is ↦
              let some = is.whole.whole.header.there.most in
              let are = begun_same old begun.met p.before.before.begun t same (λ none. omega (arith, some, none)) begun.begins in
              made_in has law kept old new table p.entry book plain t sized is (steps_of old new table old.pages t p are) name
        ]
