-- What reads answer where the pages have a book.
use Rattle.std.proofs.Common.{◌≡◌, inl, inr, ℕ, ℤ, ◌≤ℤ◌, not, ◌&&◌, List, [], length, Option, Some, None, IsTrue, sym, ap, ap₂, ◌∙◌, arith}
use Rattle.std.specs.Prelude.{is_some, Result, Ok, Err, IfOk, IfErr}
use Rattle.page_list.specs.Pages.{Pages}
use Rattle.page_pool.specs.Space.{SpaceState}
use Rattle.db_format.specs.declared.value.Value.{Value}
use Rattle.db_format.specs.declared.fault.SpaceFault.{SpaceFault}
use Rattle.db_format.specs.declared.fault.SpaceFault.TheVariants.{Failed, Memory, Bad, Corrupt, Large}
use Rattle.db_format.specs.declared.plain.PlainTable.{PlainTable}
use Rattle.tree_model.specs.Whole.{greatest}
use Rattle.tree_model.specs.declared.ends.Fault.{Fault}
use Rattle.tree_model.specs.declared.ends.Fault.TheVariants.{BadPage, Broken}
use Rattle.tree_model.specs.declared.ends.WalkEnd.TheVariants.{End, StopsAt}
use Rattle.tree_search.specs.Search.{SearchRefused, IsNoDamage}
use Rattle.book_model.specs.Book.{Name, Book, table_at}
use Rattle.book_model.specs.Pages.{IsBook}
use Rattle.book_reads.specs.Reads.{least, rows_between}
use Rattle.book_reads.specs.Laws.{SchemaRead, TablesRead, IsFound, RowRead, RowsRead}
use Rattle.table_store.specs.declared.fault.TableFault.{TableFault}
use Rattle.table_store.specs.declared.fault.TableFault.TheVariants.{NoTable, Foreign, Exists, Columns, TooLong, Space}
use Rattle.table_store.specs.Tables.{Finds, ReadMeets, ReadRefused, GetsRow, RowMeets, NextOf, ScansNext, NextMeets, Counts, CountMeets}
use Rattle.table_store.specs.Books.{StandsFor, BookRow, first, BookNext, BookCount, BookRefused, OfBook}

-- what holds of an answer, or of a fault, gives what follows from it
pub if_ok : {A E : Type 0} (P Q : A → Type 0) (r : Result A E) → ((a : A) → P a → Q a) → IfOk r P → IfOk r Q
if_ok P Q (Ok a) more holds = more a holds
if_ok P Q (Err e) more holds = tt

pub if_err : {A E : Type 0} (P Q : E → Type 0) (r : Result A E) → ((e : E) → P e → Q e) → IfErr r P → IfErr r Q
if_err P Q (Ok a) more holds = tt
if_err P Q (Err e) more holds = more e holds

is_found : (page_size : ℕ) (pages : Pages) (book : Book) (name : Name) (table : PlainTable) → IsBook page_size pages book → Finds pages name table → IsFound page_size pages book name table
is_found page_size pages book name table is f = record { is_book = is; plain = f.plain; foreign = f.foreign; taken = f.taken; says = f.says; finds = f.finds }

stands_for : TablesRead → (page_size : ℕ) (pages : Pages) (book : Book) (name : Name) (table : PlainTable) → IsBook page_size pages book → Finds pages name table → StandsFor book name table.name
stands_for read page_size pages book name table is f =
    let means = read.names page_size pages book f.plain f.foreign f.taken is f.says name in
    let found = means.found table f.finds in
    record { alike = found.0; there = ap is_some found.1; same = λ small. (means.same small table f.finds).0 }

-- ---- no fault is met

-- a refusal whose faults no book has
pub undamaged : (old new : SpaceState) (AtFault : Fault → Type 0) (fault : SpaceFault) → IsTrue old.tells → ((f : Fault) → ¬ (AtFault f)) → SearchRefused old new AtFault fault → IsNoDamage fault
undamaged old new AtFault Failed t none is = tt
undamaged old new AtFault Memory t none is = tt
undamaged old new AtFault (Bad page kept found) t none is = none (BadPage page) (is.1 t)
undamaged old new AtFault (Corrupt page) t none is = none (Broken page) (is t)
undamaged old new AtFault (Large pages) t none is = absurd is

pub book_refused : SchemaRead → TablesRead → (old new : SpaceState) (name : Name) (AtFault : PlainTable → Fault → Type 0) (fault : TableFault) → IsTrue old.tells
    → ((page_size : ℕ) (book : Book) (table : PlainTable) (f : Fault) → IsFound page_size old.pages book name table → ¬ (AtFault table f))
    → ReadRefused old new name AtFault fault → OfBook old.pages (λ book. BookRefused book name fault)
book_refused schema read old new name AtFault NoTable t none is = record {
  each = λ page_size book b.
      let f = is t in
      let means = read.names page_size old.pages book f.plain f.foreign f.taken b f.says name in
      (means.none f.none, means.foreign_is ∙ ap₂ (λ (o : Option PlainTable) n. not (is_some o) && n) f.none f.unnamed);
}
book_refused schema read old new name AtFault Foreign t none is = record {
  each = λ page_size book b.
      let f = is t in
      let means = read.names page_size old.pages book f.plain f.foreign f.taken b f.says name in
      means.foreign_is ∙ ap₂ (λ (o : Option PlainTable) n. not (is_some o) && n) f.none f.named;
}
book_refused schema read old new name AtFault Exists t none is = absurd is
book_refused schema read old new name AtFault Columns t none is = absurd is
book_refused schema read old new name AtFault TooLong t none is = absurd is
book_refused schema read old new name AtFault (Space fault) t none is = record {
  each = λ page_size book b. undamaged old new (ReadMeets old.pages name AtFault) fault t (no_fault page_size book b) is;
}
  where
    no_fault : (page_size : ℕ) (book : Book) → IsBook page_size old.pages book → (f : Fault) → ¬ (ReadMeets old.pages name AtFault f)
    no_fault page_size book b f (inl meets) = schema.no_fault page_size old.pages book b f meets
    no_fault page_size book b f (inr there) = none page_size book there.table f (is_found page_size old.pages book name there.table b there.found) there.met

-- ---- the row of a rowid

pub book_row : TablesRead → RowRead → (pages : Pages) (name : Name) (rowid : ℤ) (found : Option (List Value)) → GetsRow pages name rowid found → OfBook pages (λ book. BookRow book name rowid found)
book_row read rows pages name rowid found got = record {
  each = λ page_size book is. record {
    own = got.table.name;
    stands = stands_for read page_size pages book name got.table is got.finds;
    is = rows.is page_size pages book name got.table (is_found page_size pages book name got.table is got.finds) rowid found got.row;
  };
}

pub row_clean : SchemaRead → TablesRead → RowRead → (old new : SpaceState) (name : Name) (rowid : ℤ) (fault : TableFault) → IsTrue old.tells
    → ReadRefused old new name (RowMeets old.pages rowid) fault → OfBook old.pages (λ book. BookRefused book name fault)
row_clean schema read rows old new name rowid fault t is =
    book_refused schema read old new name (RowMeets old.pages rowid) fault t (λ page_size book table f found. rows.no_fault page_size old.pages book name table found rowid f) is

-- ---- the next row

next_in : RowsRead → (page_size : ℕ) (pages : Pages) (book : Book) (name : Name) (table : PlainTable) → IsFound page_size pages book name table → (low high : ℤ) → least ≤ℤ low
    → (found : Option (ℤ × List Value)) → NextOf (length table.create.columns) pages table.root low high found → found ≡ first (rows_between low high (table_at book table.name).rows)
next_in rows page_size pages book name table f low high above None reads = ap first (rows.are page_size pages book name table f low high above [] End reads).0
next_in rows page_size pages book name table f low high above (Some row) reads =
    sym (ap first (rows.next page_size pages book name table f low high above reads.0 row reads.1))

pub book_next : TablesRead → RowsRead → (pages : Pages) (name : Name) (low high : ℤ) (found : Option (ℤ × List Value)) → least ≤ℤ low → ScansNext pages name low high found
    → OfBook pages (λ book. BookNext book name low high found)
book_next read rows pages name low high found above got = record {
  each = λ page_size book is. record {
    own = got.table.name;
    stands = stands_for read page_size pages book name got.table is got.finds;
    is = next_in rows page_size pages book name got.table (is_found page_size pages book name got.table is got.finds) low high above found got.next;
  };
}

not_ended : (f : Fault) → ¬ (StopsAt f ≡ End)
not_ended f e = cc

pub next_clean : SchemaRead → TablesRead → RowsRead → (old new : SpaceState) (name : Name) (low high : ℤ) (fault : TableFault) → IsTrue old.tells → least ≤ℤ low
    → ReadRefused old new name (NextMeets old.pages low high) fault → OfBook old.pages (λ book. BookRefused book name fault)
next_clean schema read rows old new name low high fault t above is =
    book_refused schema read old new name (NextMeets old.pages low high) fault t
    (λ page_size book table f found meets. not_ended f (rows.are page_size old.pages book name table found low high above [] (StopsAt f) meets).1) is

-- ---- how many rows

pub book_count : TablesRead → RowsRead → (pages : Pages) (name : Name) (count : ℕ) → Counts pages name count → OfBook pages (λ book. BookCount book name count)
book_count read rows pages name count got = record {
  each = λ page_size book is. record {
    own = got.table.name;
    stands = stands_for read page_size pages book name got.table is got.finds;
    is = got.counted ∙ rows.count page_size pages book name got.table (is_found page_size pages book name got.table is got.finds) got.rows End got.walk;
  };
}

pub count_clean : SchemaRead → TablesRead → RowsRead → (old new : SpaceState) (name : Name) (fault : TableFault) → IsTrue old.tells → ReadRefused old new name (CountMeets old.pages) fault
    → OfBook old.pages (λ book. BookRefused book name fault)
count_clean schema read rows old new name fault t is =
    book_refused schema read old new name (CountMeets old.pages) fault t
    (λ page_size book table f found meets. not_ended f (rows.are page_size old.pages book name table found least greatest (grind arith) meets.0 (StopsAt f) meets.1).1) is
