-- What changes of rows leave, and why they are refused, where the pages have a book.
use Rattle.std.proofs.Common.{◌≡◌, inl, inr, ℕ, suc, ◌≤◌, ℤ, ◌<ℤ◌, Bool, true, false, cond, List, [], ◌∷◌, length, Option, Some, None, IsTrue, refl, sym, ap, subst, ◌∙◌, arith}
use Rattle.std.specs.Prelude.{is_some}
use Rattle.std.specs.List.{Contains, AllByRecursion, AllZip}
use Rattle.std.specs.Str.{str_eq_ignore_ascii_case}
use Rattle.std.specs.Ordering.{nat_cmp}
use Rattle.std.specs.Cmp.Lexicographic.{slice_cmp}
use Rattle.std.proofs.lemmas.Cmp.{nat_list_cmp_total}
use Rattle.std.specs.FinMap as map
use Rattle.std.specs.FinMap.{FinMap, nat_cmp-IsAntisymmetric, slice_cmp-IsAntisymmetric}
use Rattle.page_list.specs.Pages.{Pages}
use Rattle.page_pool.specs.Space.{SpaceState, Steady}
use Rattle.db_format.specs.Create.{IsPlain, OneCreate}
use Rattle.db_format.specs.Record.{IsRecord, IsShortest, AreBytes}
use Rattle.db_format.specs.Schema.{Table as Found, IsTableOf, tables_in}
use Rattle.db_format.specs.Plain.{plain_of, by_name}
use Rattle.db_format.specs.declared.plain.PlainTable.{PlainTable}
use Rattle.db_format.specs.declared.value.Value.{Value}
use Rattle.db_format.specs.declared.fault.SpaceFault.{SpaceFault}
use Rattle.db_format.specs.declared.fault.SpaceFault.TheVariants.{Failed, Memory, Bad, Corrupt, Large}
use Rattle.tree_model.specs.Tree.{rows_of}
use Rattle.tree_model.specs.Whole.{below_all}
use Rattle.tree_model.specs.declared.ends.Fault.{Fault}
use Rattle.tree_model.proofs.OneWitnessLemmas.{same_found}
use Rattle.tree_search.specs.Search.{SearchRefused, IsNoDamage}
use Rattle.tree_laws.specs.Front.{FrontKept}
use Rattle.rowid_tree.specs.Puts.{PutsRow, MayBeLarge, IsTooLarge, IsSoundlyRefused, HasWholeTree}
use Rattle.rowid_tree.specs.Removes.{RemovesRow, MayBeLargeWithout, IsTooLargeWithout}
use Rattle.book_model.specs.Book.{Name, Book, table_at}
use Rattle.book_model.specs.Pages.{IsBookOf, IsBook}
use Rattle.book_model.specs.Laws.{RecordHasSize}
use Rattle.book_reads.specs.Reads.{Says, plain_named}
use Rattle.book_reads.specs.Laws.{SchemaRead, TablesRead, RowRead}
use Rattle.book_reads.proofs.SchemaLemmas.{no_entries}
use Rattle.book_reads.proofs.NameLemmas.{tables_of, all_entries}
use Rattle.book_reads.proofs.TableLemmas.{named}
use Rattle.book_changes.specs.Rows.{IsPayload, RowPut, RowRemoved, LargePut, LargeRemoval}
use Rattle.book_changes.proofs.TableLemmas.{table_at as place_of}
use Rattle.book_changes.proofs.ChangeLemmas.{roots_in, whole_at, whole_with}
use Rattle.table_store.specs.declared.fault.TableFault.{TableFault}
use Rattle.table_store.specs.declared.fault.TableFault.TheVariants.{NoTable, Foreign, Exists, Columns, TooLong, Space}
use Rattle.table_store.specs.declared.schema.Place.{Place}
use Rattle.table_store.specs.Tables.{Finds, ReadMeets, RowMeets}
use Rattle.table_store.specs.Books.{StandsFor, OfBook}
use Rattle.table_store.specs.Writes.{FindsTable, Fit, RowPutIn, PutFails, RowTakenFrom, RemoveFails}
use Rattle.table_store.specs.Changed.{BookPut, PutsTooMuch, NoDamage, BookPutFails, BookRemoved, RemovesTooMuch, BookRemoveFails}
use Rattle.table_store.proofs.NameLemmas.{some_pages}
use Rattle.table_store.proofs.BookLemmas.{row_clean}
use Rattle.table_store.proofs.SizeLemmas.{size_of_record}
use Rattle.table_store.proofs.FrontLemmas.{cookie_stays}

no_Some : {A : Type 0} (a : A) → ¬ (None ≡ Some a)
no_Some a e = cc

same_Some : (a b : PlainTable) → Some a ≡ Some b → a ≡ b
same_Some a b e = cc

-- ---- a table that is found is one of those of the schema

pub record IsIn (all : List Found) (table : PlainTable) : Type 0 where
  pub one : Found
  pub among : Contains all one
  pub plain : IsPlain one.create
  pub is : table ≡ plain_of one

plain_in : (size : ℕ) (schema rows : List (List Value)) (found : List (Option Found)) → AllZip (IsTableOf size schema) rows found → AllByRecursion (λ (t : Found). IsPlain t.create) (tables_in found)
plain_in size schema [] [] each = tt
plain_in size schema [] (f ∷ found) each = absurd each
plain_in size schema (row ∷ rows) [] each = absurd each
plain_in size schema (row ∷ rows) (None ∷ found) each = plain_in size schema rows found each.1
plain_in size schema (row ∷ rows) (Some f ∷ found) each = (each.0.spelled.plain, plain_in size schema rows found each.1)

named_in : (all tables : List Found) → AllByRecursion (λ (t : Found). IsPlain t.create) tables → ((t : Found) → Contains tables t → Contains all t)
    → AllByRecursion (λ (e : Name × PlainTable). IsIn all e.1) (named tables)
named_in all [] plain into = tt
named_in all (t ∷ more) plain into = (
  record { one = t; among = into t (0, omega arith, refl); plain = plain.0; is = refl },
  named_in all more plain.1 (λ x has. into x (suc has.0, omega (arith, has.1), has.2)),
)

found_in : (all : List Found) (es : List (Name × PlainTable)) (name : Name) (table : PlainTable) → AllByRecursion (λ (e : Name × PlainTable). IsIn all e.1) es
    → plain_named (tables_of es) name ≡ Some table → IsIn all table
found_in all [] name table each is = absurd (no_Some table is)
found_in all (e ∷ es) name table each is = by (λ later. found_in all es name table each.1 later) (str_eq_ignore_ascii_case name e.1.name) is
  where
    by : (plain_named (tables_of es) name ≡ Some table → IsIn all table) → (b : Bool) → cond b (Some e.1) (plain_named (tables_of es) name) ≡ Some table → IsIn all table
    by rest true here = subst (IsIn all) (same_Some e.1 table here) each.0
    by rest false later = rest later

pub is_one : OneCreate → SchemaRead → (pages : Pages) (book : Book) (is : IsBookOf pages book) (name : Name) (table : PlainTable) → Finds pages name table → IsIn (tables_in is.found) table
is_one create read pages book is name table f =
    let P : List (List Value) → Type 0 = λ rows. Says pages.size rows f.plain f.foreign f.taken in
    let says = subst P (read.values pages book is f.says.rows f.says.has) f.says.says in
    let founds = same_found create pages.size is.rows is.rows says.found is.found says.each is.whole.plain in
    let all : List Found = tables_in is.found in
    let tables : FinMap (slice_cmp nat_cmp) PlainTable = by_name all in
    let plain_are : f.plain ≡ map.values tables = says.plain_are ∙ ap (λ (l : List (Option Found)). map.values (by_name (tables_in l))) founds in
    let each = all_entries (slice_cmp nat_cmp) nat_list_cmp_total (slice_cmp-IsAntisymmetric nat_cmp-IsAntisymmetric) (λ (e : Name × PlainTable). IsIn all e.1) (named all)
    (no_entries (slice_cmp nat_cmp) PlainTable) (named_in all all (plain_in pages.size is.rows is.rows is.found is.whole.plain) (λ t has. has)) in
    found_in all (map.entries tables) name table each (sym (ap (λ (l : List PlainTable). plain_named l name) plain_are) ∙ f.finds)

-- so the pages are some, and have a book of their own
pub no_pages : (pages : Pages) (name : Name) (table : PlainTable) → Finds pages name table → ¬ (pages.size ≡ 0)
no_pages pages name table f none =
    let says = f.says.says in
    let place : Place = record { root = table.root; columns = length table.create.columns } in
    let some = some_pages pages.size _ f.plain name place (record { found = says.found; each = says.each; plain_are = says.plain_are })
    (record { table = table; finds = f.finds; rooted = refl; columned = refl }) in
    omega (arith, some, none)

-- ---- the table in the book

record InBook (pages : Pages) (book : Book) (is : IsBookOf pages book) (name : Name) (root columns : ℕ) : Type 0 where
  one : Found
  among : Contains (tables_in is.found) one
  few : columns ≤ 32
  rooted : root ≡ one.root
  columned : columns ≡ length one.create.columns
  stands : StandsFor book name one.create.name
  has_columns : columns ≡ length (table_at book one.create.name).columns

pub stands_with : TablesRead → (page_size : ℕ) (pages : Pages) (book : Book) (name : Name) (table : PlainTable) → IsBook page_size pages book → Finds pages name table
    → StandsFor book name table.name × (length table.create.columns ≡ length (table_at book table.name).columns)
stands_with read page_size pages book name table is f =
    let means = read.names page_size pages book f.plain f.foreign f.taken is f.says name in
    let found = means.found table f.finds in (
      record { alike = found.0; there = ap is_some found.1; same = λ small. (means.same small table f.finds).0 },
      sym (ap (λ (l : List Name). length l) found.2),
    )

in_book : OneCreate → SchemaRead → TablesRead → (pages : Pages) (book : Book) (is : IsBookOf pages book) (name : Name) (root columns : ℕ) → FindsTable pages name root columns
    → InBook pages book is name root columns
in_book create schema read pages book is name root columns f =
    let it = is_one create schema pages book is name f.table f.finds in
    let both = stands_with read 0 pages book name f.table (inr is) f.finds in
    let as_many : columns ≡ length it.one.create.columns = f.columned ∙ ap (λ (t : PlainTable). length t.create.columns) it.is in
    let few : length it.one.create.columns ≤ 32 = it.plain.columned.few in
    record {
      one = it.one;
      among = it.among;
      few = omega (arith, as_many, few);
      rooted = f.rooted ∙ ap (λ (t : PlainTable). t.root) it.is;
      columned = as_many;
      stands = subst (λ (t : PlainTable). StandsFor book name t.name) it.is both.0;
      has_columns = f.columned ∙ both.1 ∙ ap (λ (t : PlainTable). length (table_at book t.name).columns) it.is;
    }

whole_tree : (pages : Pages) (book : Book) (is : IsBookOf pages book) (one : Found) → Contains (tables_in is.found) one → HasWholeTree pages one.root
whole_tree pages book is one among =
    let at = place_of (rows_of is.schema) is.found is.trees is.tables one is.each among.0 among.1 among.2 in
    record {
      roots = 1 ∷ roots_in is.found;
      before = is.schema ∷ at.t;
      tree = at.tree;
      behind = at.t';
      trunks = is.trunks;
      whole = whole_with pages book is one at;
      rooted = (whole_at pages book is one at).rooted;
    }

pub soundly : (pages : Pages) (root : ℕ) (fault : SpaceFault) → HasWholeTree pages root → IsSoundlyRefused pages root fault → IsNoDamage fault
soundly pages root fault has sound = sound.each has.roots has.before has.behind has.tree has.trunks has.whole has.rooted

-- ---- a row put

payload_is : RecordHasSize → (one : Found) (payload : List ℕ) (values : List Value) (columns : ℕ) → columns ≤ 32 → columns ≡ length one.create.columns → Fit columns values → AreBytes payload → IsRecord payload values
    → IsShortest payload values → IsPayload one payload values
payload_is has one payload values columns few columned fit bytes is_record shortest = record {
  is_record = is_record;
  full = fit.full ∙ columned;
  size = size_of_record has payload values (omega (arith, fit.full, few)) fit.short bytes is_record shortest;
}

pub book_put : OneCreate → SchemaRead → TablesRead → RecordHasSize → RowPut → FrontKept → (old new : SpaceState) (name : Name) (rowid : ℤ) (values : List Value) (replaced : Bool) → IsTrue old.tells → Steady old new
    → RowPutIn old new name rowid values replaced → OfBook old.pages (λ book. BookPut old new book name rowid values replaced)
book_put create schema read has put kept old new name rowid values replaced t steady p = record { each = by }
  where
    by : (page_size : ℕ) (book : Book) → IsBook page_size old.pages book → BookPut old new book name rowid values replaced
    by page_size book (inl none) = absurd (no_pages old.pages name (p.found t).table (p.found t).finds none.0)
    by page_size book (inr is) =
        let it = in_book create schema read old.pages book is name p.root p.columns (p.found t) in
        let same = p.stays.pages_stay t in
        let W : Pages → ℕ → Type 0 = λ pages root. PutsRow pages new.pages root rowid p.payload replaced in
        let puts : PutsRow old.pages new.pages it.one.root rowid p.payload replaced = subst (W old.pages) it.rooted (subst (λ (pages : Pages). W pages p.root) same (p.puts t)) in
        let H : Pages → ℕ → Type 0 = λ pages root. HasWholeTree pages root in
        let there = whole_tree old.pages book is it.one it.among in
        let tree : HasWholeTree p.met.pages p.root = subst (λ (pages : Pages). H pages p.root) (sym same) (subst (H old.pages) (sym it.rooted) there) in
        let done = puts.each there.roots there.before there.behind there.tree there.trunks there.whole there.rooted in
        let law = put new.page_size old.pages new.pages book is it.one rowid values p.payload replaced it.among
        (payload_is has it.one p.payload values p.columns it.few it.columned p.fit p.bytes p.is_record p.shortest) (steady.sizes.each (steady.told ∙ t)) puts in
        record {
          own = it.one.create.name;
          stands = it.stands;
          full = p.fit.full ∙ it.has_columns;
          short = p.fit.short;
          becomes = law.0;
          cookie = cookie_stays kept old.pages new.pages is.whole.whole.header.there done.no_fewer done.front;
          told = law.1;
          change = p.changes t tree;
        }

-- ---- a row not put

pub no_damage : (Past : ℕ → Type 0) (old new : SpaceState) (A : Fault → Type 0) (fault : SpaceFault) → SearchRefused old new A fault → IsNoDamage fault → NoDamage Past fault
no_damage Past old new A Failed refused none = tt
no_damage Past old new A Memory refused none = tt
no_damage Past old new A (Bad page kept found) refused none = none
no_damage Past old new A (Corrupt page) refused none = none
no_damage Past old new A (Large pages) refused none = absurd refused

pub past_put : (Past : ℕ → Type 0) (pages : Pages) (root : ℕ) (rowid : ℤ) (payload : List ℕ) (page_size : ℕ) (fault : SpaceFault) → IsNoDamage fault
    → MayBeLarge pages root rowid payload page_size fault → ((n : ℕ) → IsTooLarge pages root rowid payload page_size n → Past n) → NoDamage Past fault
past_put Past pages root rowid payload page_size Failed none large more = tt
past_put Past pages root rowid payload page_size Memory none large more = tt
past_put Past pages root rowid payload page_size (Bad page kept found) none large more = none
past_put Past pages root rowid payload page_size (Corrupt page) none large more = none
past_put Past pages root rowid payload page_size (Large n) none large more = more n large

pub put_clean : OneCreate → SchemaRead → TablesRead → RowRead → RecordHasSize → LargePut → (old new : SpaceState) (name : Name) (rowid : ℤ) (values : List Value) (fault : TableFault) → IsTrue old.tells
    → below_all <ℤ rowid → PutFails old new name rowid values fault → OfBook old.pages (λ book. BookPutFails old.page_size book name rowid values fault)
put_clean create schema read rows has large old new name rowid values NoTable t above is = record { each = (row_clean schema read rows old new name rowid NoTable t is.1).each }
put_clean create schema read rows has large old new name rowid values Foreign t above is = record { each = (row_clean schema read rows old new name rowid Foreign t is.1).each }
put_clean create schema read rows has large old new name rowid values Exists t above is = absurd is
put_clean create schema read rows has large old new name rowid values Columns t above is = record {
  each = λ page_size book b.
      let m = is.1 t in
      let both = stands_with read page_size old.pages book name m.table b m.found in
      record { own = m.table.name; stands = both.0; others = λ e. m.misfit (e ∙ sym both.1) };
}
put_clean create schema read rows has large old new name rowid values TooLong t above is = record {
  each = λ page_size book b.
      let m = is.1 t in
      let both = stands_with read page_size old.pages book name m.table b m.found in
      record { own = m.table.name; stands = both.0; full = m.misfit.0 ∙ both.1; long = m.misfit.1 };
}
put_clean create schema read rows has large old new name rowid values (Space fault) t above (inl is) = record {
  each = λ page_size book b.
      no_damage (PutsTooMuch old.page_size book name rowid values) old new (ReadMeets old.pages name (RowMeets old.pages rowid)) fault is.1 ((row_clean schema read rows old new name rowid (Space fault) t is.1).each page_size book b);
}
put_clean create schema read rows has large old new name rowid values (Space fault) t above (inr p) = record { each = by }
  where
    by : (page_size : ℕ) (book : Book) → IsBook page_size old.pages book → NoDamage (PutsTooMuch old.page_size book name rowid values) fault
    by page_size book (inl none) = absurd (no_pages old.pages name (p.found t).table (p.found t).finds none.0)
    by page_size book (inr is) =
        let it = in_book create schema read old.pages book is name p.root p.columns (p.found t) in
        let same = p.stays.pages_stay t in
        let H : Pages → ℕ → Type 0 = λ pages root. HasWholeTree pages root in
        let tree : HasWholeTree p.met.pages p.root =
        subst (λ (pages : Pages). H pages p.root) (sym same) (subst (H old.pages) (sym it.rooted) (whole_tree old.pages book is it.one it.among)) in
        past_put (PutsTooMuch old.page_size book name rowid values) p.met.pages p.root rowid p.payload old.page_size fault (soundly p.met.pages p.root fault tree (p.clean t)) (p.large t)
        (λ n much.
        let L : Pages → ℕ → Type 0 = λ pages root. IsTooLarge pages root rowid p.payload old.page_size n in
        let there : IsTooLarge old.pages it.one.root rowid p.payload old.page_size n = subst (L old.pages) it.rooted (subst (λ (pages : Pages). L pages p.root) same much) in
        record {
          own = it.one.create.name;
          stands = it.stands;
          past = record {
            passes = much.passes;
            least = much.least;
            within = large old.page_size n old.pages book is it.one rowid values p.payload it.among
                (payload_is has it.one p.payload values p.columns it.few it.columned p.fit p.bytes p.is_record p.shortest) above there;
          };
        })

-- ---- a row taken out

pub book_removed : OneCreate → SchemaRead → TablesRead → RowRemoved → FrontKept → (old new : SpaceState) (name : Name) (rowid : ℤ) (removed : Bool) → IsTrue old.tells → Steady old new
    → RowTakenFrom old new name rowid removed → OfBook old.pages (λ book. BookRemoved old new book name rowid removed)
book_removed create schema read takes kept old new name rowid removed t steady p = record { each = by }
  where
    by : (page_size : ℕ) (book : Book) → IsBook page_size old.pages book → BookRemoved old new book name rowid removed
    by page_size book (inl none) = absurd (no_pages old.pages name (p.found t).table (p.found t).finds none.0)
    by page_size book (inr is) =
        let it = in_book create schema read old.pages book is name p.root p.columns (p.found t) in
        let same = p.stays.pages_stay t in
        let W : Pages → ℕ → Type 0 = λ pages root. RemovesRow pages new.pages root rowid removed in
        let removes : RemovesRow old.pages new.pages it.one.root rowid removed = subst (W old.pages) it.rooted (subst (λ (pages : Pages). W pages p.root) same (p.removes t)) in
        let H : Pages → ℕ → Type 0 = λ pages root. HasWholeTree pages root in
        let there = whole_tree old.pages book is it.one it.among in
        let tree : HasWholeTree p.met.pages p.root = subst (λ (pages : Pages). H pages p.root) (sym same) (subst (H old.pages) (sym it.rooted) there) in
        let done = removes.each there.roots there.before there.behind there.tree there.trunks there.whole there.rooted in
        let law = takes new.page_size old.pages new.pages book is it.one rowid removed it.among (steady.sizes.each (steady.told ∙ t)) removes in
        record {
          own = it.one.create.name;
          stands = it.stands;
          becomes = law.0;
          cookie = cookie_stays kept old.pages new.pages is.whole.whole.header.there done.no_fewer done.front;
          told = law.1;
          change = λ was. p.changes was t tree;
        }

pub past_removal : (Past : ℕ → Type 0) (pages : Pages) (root : ℕ) (rowid : ℤ) (page_size : ℕ) (fault : SpaceFault) → IsNoDamage fault → MayBeLargeWithout pages root rowid page_size fault
    → ((n : ℕ) → IsTooLargeWithout pages root rowid page_size n → Past n) → NoDamage Past fault
past_removal Past pages root rowid page_size Failed none large more = tt
past_removal Past pages root rowid page_size Memory none large more = tt
past_removal Past pages root rowid page_size (Bad page kept found) none large more = none
past_removal Past pages root rowid page_size (Corrupt page) none large more = none
past_removal Past pages root rowid page_size (Large n) none large more = more n large

pub remove_clean : OneCreate → SchemaRead → TablesRead → RowRead → LargeRemoval → (old new : SpaceState) (name : Name) (rowid : ℤ) (fault : TableFault) → IsTrue old.tells
    → RemoveFails old new name rowid fault → OfBook old.pages (λ book. BookRemoveFails old.page_size book name rowid fault)
remove_clean create schema read rows large old new name rowid NoTable t is = record { each = (row_clean schema read rows old new name rowid NoTable t is.1).each }
remove_clean create schema read rows large old new name rowid Foreign t is = record { each = (row_clean schema read rows old new name rowid Foreign t is.1).each }
remove_clean create schema read rows large old new name rowid Exists t is = absurd is
remove_clean create schema read rows large old new name rowid Columns t is = absurd is
remove_clean create schema read rows large old new name rowid TooLong t is = absurd is
remove_clean create schema read rows large old new name rowid (Space fault) t (inl is) = record {
  each = λ page_size book b.
      no_damage (RemovesTooMuch old.page_size book name rowid) old new (ReadMeets old.pages name (RowMeets old.pages rowid)) fault is.1 ((row_clean schema read rows old new name rowid (Space fault) t is.1).each page_size book b);
}
remove_clean create schema read rows large old new name rowid (Space fault) t (inr p) = record { each = by }
  where
    by : (page_size : ℕ) (book : Book) → IsBook page_size old.pages book → NoDamage (RemovesTooMuch old.page_size book name rowid) fault
    by page_size book (inl none) = absurd (no_pages old.pages name (p.found t).table (p.found t).finds none.0)
    by page_size book (inr is) =
        let it = in_book create schema read old.pages book is name p.root p.columns (p.found t) in
        let same = p.stays.pages_stay t in
        let H : Pages → ℕ → Type 0 = λ pages root. HasWholeTree pages root in
        let tree : HasWholeTree p.met.pages p.root =
        subst (λ (pages : Pages). H pages p.root) (sym same) (subst (H old.pages) (sym it.rooted) (whole_tree old.pages book is it.one it.among)) in
        past_removal (RemovesTooMuch old.page_size book name rowid) p.met.pages p.root rowid old.page_size fault (soundly p.met.pages p.root fault tree (p.clean t)) (p.large t)
        (λ n much.
        let L : Pages → ℕ → Type 0 = λ pages root. IsTooLargeWithout pages root rowid old.page_size n in
        let there : IsTooLargeWithout old.pages it.one.root rowid old.page_size n = subst (L old.pages) it.rooted (subst (λ (pages : Pages). L pages p.root) same much) in
        record {
          own = it.one.create.name;
          stands = it.stands;
          past = record { passes = much.passes; least = much.least; within = large old.page_size n old.pages book is it.one rowid it.among there };
        })
