-- A table not made, where the pages have a book.
use Rattle.std.proofs.Common.{◌≡◌, ◌⊎◌, inl, inr, ℕ, ◌+◌, ◌-◌, ◌*◌, ◌≤◌, ◌<◌, false, ℤ, ◌∷◌, IsTrue, refl, sym, ap, subst, ◌∙◌, arith, mul-le-mul_right}
use Rattle.db_format.specs.Header.{greatest_length}
use Rattle.db_format.specs.Create.{IsPlain}
use Rattle.db_format.specs.declared.create.Create.{Create}
use Rattle.db_format.specs.declared.fault.SpaceFault.{SpaceFault}
use Rattle.db_format.specs.declared.fault.SpaceFault.TheVariants.{Failed, Memory, Bad, Corrupt, Large}
use Rattle.page_list.specs.Pages.{Pages, IsGood}
use Rattle.page_list.specs.Freelist.{first_trunk}
use Rattle.page_list.specs.Edits.{grown}
use Rattle.page_pool.specs.Space.{SpaceState, Steady, IsLarge}
use Rattle.payload_chain.specs.Chains.{Midway, midway}
use Rattle.tree_model.specs.Laws.{RowsRise}
use Rattle.tree_search.specs.Search.{IsNoDamage}
use Rattle.tree_laws.specs.Front.{FrontKept}
use Rattle.rowid_tree.specs.Puts.{IsTooLarge}
use Rattle.rowid_tree.specs.Roots.{RootRefused, AddsRoot}
use Rattle.book_model.specs.Book.{Name, Book, is_taken, next_entry}
use Rattle.book_model.specs.Pages.{IsBookOf, IsBook}
use Rattle.book_model.specs.Laws.{RecordHasSize}
use Rattle.book_reads.specs.Reads.{SchemaMeets}
use Rattle.book_reads.specs.Laws.{SchemaRead}
use Rattle.book_changes.specs.First.{FirstPage}
use Rattle.book_changes.specs.Tables.{LargeRoot, LargeEntry}
use Rattle.book_changes.proofs.ChangeLemmas.{roots_in}
use Rattle.table_store.specs.declared.fault.TableFault.{TableFault}
use Rattle.table_store.specs.declared.fault.TableFault.TheVariants.{NoTable, Foreign, Exists, Columns, TooLong, Space}
use Rattle.table_store.specs.Books.{OfSpace}
use Rattle.table_store.specs.Changed.{NoDamage}
use Rattle.table_store.specs.Made.{BeginRefused, EntryRefused, Begun, StopsAtNewRoot, StopsAtEntry, StopsAtNewCookie, StopsMaking, MakeFails, MakesTooMuch, BookMakeFails}
use Rattle.table_store.proofs.BookLemmas.{undamaged}
use Rattle.table_store.proofs.ChangedLemmas.{no_damage, past_put, soundly}
use Rattle.table_store.proofs.DropBookLemmas.{not_bad, cookie_fault}
use Rattle.table_store.proofs.NextEntryLemmas.{entry_above}
use Rattle.table_store.proofs.CreateBookLemmas.{NewEntry, name_taken, new_entry, rooted_schema, entry_keeps, entry_of, FirstBook, first_book, begun_same, begun_first}
use Rattle.table_store.proofs.RootCleanLemmas.{root_clean}
use Rattle.table_store.proofs.FirstEntryLemmas.{first_fits}

-- ---- there is no page 1

-- a database of no pages has room for one
no_room : (s : SpaceState) (few : ℕ) → s.pages.size ≡ few → few ≤ 1 → s.page_size ≤ 65536 → ¬ (IsLarge s)
no_room s few size small page large =
    let P : ℕ → Type 0 = λ k. greatest_length < (k + 1) * s.page_size in
    let least : greatest_length < (few + 1) * s.page_size = subst P size large in
    omega (arith, least, mul-le-mul_right s.page_size (let two : few + 1 ≤ 2 = omega (arith, small) in two), page)

first_fault : (Past : ℕ → Type 0) (s new : SpaceState) (fault : SpaceFault) → s.page_size ≤ 65536 → IsTrue s.tells → BeginRefused s new fault → NoDamage Past fault
first_fault Past s new Failed page t refused = tt
first_fault Past s new Memory page t refused = tt
first_fault Past s new (Bad number kept found) page t (none, inl grow) = grow.1
first_fault Past s new (Bad number kept found) page t (none, inr zeros) =
    let P : Pages → Type 0 = λ pages. IsGood pages 1 in
    let Q : ℕ → Type 0 = λ k. IsGood (grown s.page_size (record s.pages { size = k })) 1 in
    let good : IsGood zeros.met.pages 1 = subst P (sym (zeros.grew.pages_are t)) (subst Q (sym none) refl) in
    let sums : ℕ × ℕ = (kept, found) in
    not_bad sums (sym good ∙ zeros.cause.1 t)
first_fault Past s new (Corrupt number) page t (none, inl grow) = grow.1
first_fault Past s new (Corrupt number) page t (none, inr zeros) = zeros.cause
first_fault Past s new (Large n) page t (none, inl grow) = absurd (no_room s 0 none (omega arith) page grow.1.0)
first_fault Past s new (Large n) page t (none, inr zeros) = absurd zeros.cause

-- ---- page 1 is there

-- it is that of the pages before, or the first one
abbrev BeginsIn : SpaceState → Pages → Book → Type 0
BeginsIn old begun book = (IsBookOf old.pages book × (begun ≡ old.pages)) ⊎ FirstBook old begun book

begins_in : (old new : SpaceState) (begun : Midway) (name : Name) (entry : ℤ) (book : Book) → IsTrue old.tells → Steady old new → IsBook old.page_size old.pages book → Begun old begun name entry → BeginsIn old begun.pages book
begins_in old new begun name entry book t steady (inl none) b =
    let same = b.free.stays.pages_stay t in
    inr (first_book old new b.met begun book t steady same none.1 (begun_first old b.met begun same none.0 b.begins))
begins_in old new begun name entry book t steady (inr is) b =
    let some = is.whole.whole.header.there.most in
    inl (is, begun_same old b.met begun t (b.free.stays.pages_stay t) (λ none. omega (arith, some, none)) b.begins)

-- so the pages have a book of their own
record HasBook (pages : Pages) : Type 0 where
  own : Book
  is : IsBookOf pages own

has_book : FirstPage → (old : SpaceState) (begun : Pages) (book : Book) → BeginsIn old begun book → HasBook begun
has_book page old begun book (inl whole) = let P : Pages → Type 0 = λ pages. IsBookOf pages book in record { own = book; is = subst P (sym whole.1) whole.0 }
has_book page old begun book (inr first) = record { own = _; is = page old.page_size first.reserved begun first.is }

-- ---- there is no root

root_fault : (Past : ℕ → Type 0) (s new : SpaceState) (fault : SpaceFault) → IsNoDamage fault → RootRefused s new fault → ((n : ℕ) → RootRefused s new (Large n) → Past n) → NoDamage Past fault
root_fault Past s new Failed none refused more = tt
root_fault Past s new Memory none refused more = tt
root_fault Past s new (Bad page kept found) none refused more = none
root_fault Past s new (Corrupt page) none refused more = none
root_fault Past s new (Large n) none refused more = more n refused

root_large : LargeRoot → (old new : SpaceState) (begun : Midway) (table : Create) (book : Book) (n : ℕ) → IsTrue old.tells → Steady old new → IsBookOf old.pages book → begun.pages ≡ old.pages
    → is_taken book table.name ≡ false → RootRefused (midway old begun) new (Large n) → MakesTooMuch old.page_size book table n
root_large law old new begun table book n t steady is are free (inr stops) = absurd stops.refused.refused
root_large law old new begun table book n t steady is are free (inl take) =
    let next : n ≡ begun.pages.size + 1 = take.2 in
    let stays : new.pages.size ≡ begun.pages.size = take.0.number in
    let P : ℕ → Type 0 = λ k. greatest_length < k * old.page_size in
    let Q : ℕ → Type 0 = λ k. new.pages.size * k ≤ greatest_length in
    let R : ℕ → Type 0 = λ k. k * old.page_size ≤ greatest_length in
    let F : Pages → Type 0 = λ pages. first_trunk pages ≡ 0 in
    let before : new.pages.size ≡ n - 1 = omega (arith, next, stays) in
    let within = law old.pages book table.name table.columns 0 is free (subst F are (take.3 t).1) in
    record {
      free = free;
      number = 0;
      past = record {
        passes = subst P (sym next) take.1;
        least = subst R before (subst Q steady.sized steady.sizes.few);
        within = omega (arith, next, ap (λ (p : Pages). p.size) are, within);
      };
    }

root_small : (s new : SpaceState) (n : ℕ) → s.pages.size ≡ 1 → s.page_size ≤ 65536 → ¬ (RootRefused s new (Large n))
root_small s new n one page (inl take) = no_room s 1 one (omega arith) page take.1
root_small s new n one page (inr stops) = stops.refused.refused

-- what the laws say that are needed
record MakeLaws : Type 0 where
  pub schema : SchemaRead
  pub has : RecordHasSize
  pub page : FirstPage
  pub root : LargeRoot
  pub entry : LargeEntry
  pub rises : RowsRise
  pub kept : FrontKept

at_root : MakeLaws → (old new : SpaceState) (table : Create) (fault : SpaceFault) (book : Book) → IsTrue old.tells → Steady old new → IsBook old.page_size old.pages book → (p : StopsAtNewRoot old new table.name fault)
    → NewEntry book table.name p.entry → NoDamage (MakesTooMuch old.page_size book table) fault
at_root laws old new table fault book t steady b p name =
    let s : SpaceState = midway old p.begun in
    let page : old.page_size ≤ 65536 = omega (arith, steady.sized, steady.sizes.size_of_page.most) in
    let begins = begins_in old new p.begun table.name p.entry book t steady b p.before in
    let its = has_book laws.page old p.begun.pages book begins in
    root_fault (MakesTooMuch old.page_size book table) s new fault (root_clean s new (1 ∷ roots_in its.is.found) (its.is.schema ∷ its.is.trees) its.is.trunks fault t its.is.whole.whole p.refused) p.refused
    (λ n large. elim begins as (λ _. MakesTooMuch old.page_size book table n) [
      | inl whole ↦ root_large laws.root old new p.begun table book n t steady whole.0 whole.1 name.free large
      | inr first ↦ absurd (root_small s new n first.is.size page large)
    ])

-- ---- there is, and no row

at_entry : MakeLaws → (old new : SpaceState) (table : Create) (fault : SpaceFault) (book : Book) → IsPlain table → IsTrue old.tells → Steady old new → IsBook old.page_size old.pages book
    → (p : StopsAtEntry old new table fault) → NewEntry book table.name p.entry → NoDamage (MakesTooMuch old.page_size book table) fault
at_entry laws old new table fault book plain t steady b p name = by p.refused
  where
    by : EntryRefused (midway old p.rooted) new table p.number p.entry fault → NoDamage (MakesTooMuch old.page_size book table) fault
    by (inl memory) = let P : SpaceFault → Type 0 = NoDamage (MakesTooMuch old.page_size book table) in subst P (sym memory.1) tt
    by (inr e) =
        let page : old.page_size ≤ 65536 = omega (arith, steady.sized, steady.sizes.size_of_page.most) in
        let begins = begins_in old new p.before.begun table.name p.entry book t steady b p.before.before in
        let its = has_book laws.page old p.before.begun.pages book begins in
        let adds = p.before.adds t in
        let tree = rooted_schema p.before.begun.pages p.rooted.pages its.own p.number its.is adds in
        past_put (MakesTooMuch old.page_size book table) p.rooted.pages 1 p.entry e.payload old.page_size fault (soundly p.rooted.pages 1 fault tree (e.clean t)) (e.large t)
        (λ n much. elim begins as (λ _. MakesTooMuch old.page_size book table n) [
          | inl whole ↦
              let A : Pages → Type 0 = λ pages. AddsRoot pages p.rooted.pages p.number in
              let L : ℤ → Type 0 = λ key. IsTooLarge p.rooted.pages 1 key e.payload old.page_size n in
              record {
                free = name.free;
                number = p.number;
                past = record {
                  passes = much.passes;
                  least = much.least;
                  within = laws.entry old.page_size n old.pages p.rooted.pages book table.name table.columns p.number e.payload whole.0 name.free (entry_of laws.has table p.number e.payload plain e.is)
                      (entry_above laws.rises old.pages book whole.0) (subst A whole.1 adds) (subst L name.entry_is much);
                };
              }
          | inr first ↦
              let T : Book → Type 0 = λ other. is_taken other table.name ≡ false in
              let L : ℤ → Type 0 = λ key. IsTooLarge p.rooted.pages 1 key e.payload old.page_size n in
              absurd (first_fits laws.has laws.entry laws.rises old.page_size old.page_size n p.before.begun.pages p.rooted.pages table p.number e.payload page first.is.least plain
              (laws.page old.page_size first.reserved p.before.begun.pages first.is) (subst T first.are name.free) e.is adds (subst L (name.entry_is ∙ ap next_entry first.are) much))
        ])

-- ---- or the cookie was not raised

at_cookie : MakeLaws → (old new : SpaceState) (table : Create) (fault : SpaceFault) (book : Book) → IsTrue old.tells → Steady old new → IsBook old.page_size old.pages book → StopsAtNewCookie old new table fault
    → NoDamage (MakesTooMuch old.page_size book table) fault
at_cookie laws old new table fault book t steady b p =
    let r = p.before.before in
    let put = p.before.put in
    let its = has_book laws.page old r.begun.pages book (begins_in old new r.begun table.name p.entry book t steady b r.before) in
    let keeps = entry_keeps laws.kept r.begun.pages p.before.rooted.pages p.entered.pages its.own p.number p.entry put.payload put.replaced its.is (r.adds t) (put.puts t) in
    cookie_fault fault (MakesTooMuch old.page_size book table) (midway old p.entered) new t keeps.good p.refused

-- ---- a table not made

stops : MakeLaws → (old new : SpaceState) (table : Create) (fault : SpaceFault) (book : Book) → IsPlain table → IsTrue old.tells → Steady old new → IsBook old.page_size old.pages book → StopsMaking old new table fault
    → NoDamage (MakesTooMuch old.page_size book table) fault
stops laws old new table fault book plain t steady b (inl p) =
    first_fault (MakesTooMuch old.page_size book table) (midway old p.met) new fault (omega (arith, steady.sized, steady.sizes.size_of_page.most)) t p.refused
stops laws old new table fault book plain t steady b (inr (inl p)) =
    at_root laws old new table fault book t steady b p (new_entry laws.schema old.page_size old.pages book table.name p.entry b (p.before.free.is t))
stops laws old new table fault book plain t steady b (inr (inr (inl p))) =
    at_entry laws old new table fault book plain t steady b p (new_entry laws.schema old.page_size old.pages book table.name p.entry b (p.before.before.free.is t))
stops laws old new table fault book plain t steady b (inr (inr (inr p))) = at_cookie laws old new table fault book t steady b p

pub make_clean : SchemaRead → RecordHasSize → FirstPage → LargeRoot → LargeEntry → RowsRise → FrontKept → (old new : SpaceState) (table : Create) (fault : TableFault) → IsPlain table → IsTrue old.tells → Steady old new
    → MakeFails old new table fault → OfSpace old (λ book. BookMakeFails old.page_size book table fault)
make_clean schema has page root entry rises kept old new table NoTable plain t steady is = absurd is
make_clean schema has page root entry rises kept old new table Foreign plain t steady is = absurd is
make_clean schema has page root entry rises kept old new table Exists plain t steady is = record { each = λ book b. name_taken schema old.page_size old.pages book table.name b (is.1 t) }
make_clean schema has page root entry rises kept old new table Columns plain t steady is = absurd is
make_clean schema has page root entry rises kept old new table TooLong plain t steady is = absurd is
make_clean schema has page root entry rises kept old new table (Space fault) plain t steady (inl is) = record {
  each = λ book b.
      no_damage (MakesTooMuch old.page_size book table) old new (SchemaMeets old.pages) fault is.1
      (undamaged old new (SchemaMeets old.pages) fault t (schema.no_fault old.page_size old.pages book b) is.1);
}
make_clean schema has page root entry rises kept old new table (Space fault) plain t steady (inr p) =
    let laws : MakeLaws = record { schema = schema; has = has; page = page; root = root; entry = entry; rises = rises; kept = kept } in
    record { each = λ book b. stops laws old new table fault book plain t steady b p }
