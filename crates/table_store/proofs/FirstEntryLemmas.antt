-- Behind a first page there is always room for the row of a first table.
use Rattle.std.proofs.Common.{◌≡◌, inl, inr, ℕ, ◌+◌, ◌-◌, ◌≤◌, false, ◌<ℤ◌, List, [], length, map, refl, ap, arith, mul-le-mul_right}
use Rattle.std.proofs.lemmas.Bool.{cases_lt}
use Rattle.std.specs.Ordering.{nat_cmp}
use Rattle.std.specs.Cmp.Lexicographic.{slice_cmp}
use Rattle.std.specs.FinMap as map
use Rattle.db_format.specs.Spill.{local_size}
use Rattle.db_format.specs.Create.{IsPlain}
use Rattle.db_format.specs.Record.{IsRecord}
use Rattle.db_format.specs.declared.create.Create.{Create}
use Rattle.page_list.specs.Pages.{Pages}
use Rattle.page_list.specs.Chain.{pages_needed}
use Rattle.payload_chain.proofs.CountLemmas.{needed-above}
use Rattle.tree_model.specs.Laws.{RowsRise}
use Rattle.tree_model.specs.Whole.{below_all}
use Rattle.rowid_tree.specs.Roots.{AddsRoot}
use Rattle.rowid_tree.specs.Puts.{IsTooLarge}
use Rattle.book_model.specs.Size.{record_size}
use Rattle.book_model.specs.Book.{Name, Table, Book, empty_book, is_taken, next_entry, entry_row, with_table, need_of}
use Rattle.book_model.specs.Pages.{IsBookOf}
use Rattle.book_model.specs.Laws.{RecordHasSize}
use Rattle.book_reads.proofs.SchemaLemmas.{no_entries}
use Rattle.book_changes.specs.Tables.{LargeEntry}
use Rattle.book_changes.proofs.NeedLemmas.{put_need, empty_need, need_more, need_is, table_need}
use Rattle.table_store.specs.Made.{IsEntryRecord}
use Rattle.table_store.proofs.EntrySizeLemmas.{entry_sized}
use Rattle.table_store.proofs.NextEntryLemmas.{entry_above}
use Rattle.table_store.proofs.CreateBookLemmas.{entry_of}

-- a chain has no more pages than bytes
few_needed : (usable len : ℕ) → 480 ≤ usable → pages_needed usable len ≤ len
few_needed usable len least = elim (cases_lt len (pages_needed usable len)) [
  | inl more ↦ absurd (omega (arith, needed-above usable len len (omega (arith, least)) more, mul-le-mul_right len (let one : 1 ≤ usable - 4 = omega (arith, least) in one)))
  | inr few ↦ few
]

-- what the book of a first table may need
first_need : (page usable : ℕ) (table : Create) (number : ℕ) (payload : List ℕ) → 480 ≤ usable → below_all <ℤ next_entry (empty_book page usable) → IsRecord payload (entry_row table.name table.columns number).values
    → length payload ≡ record_size (entry_row table.name table.columns number).values → need_of (with_table (record (empty_book page usable) { pages = 1 }) table.name table.columns number) ≤ 4 + length payload
first_need page usable table number payload least above is size =
    let book : Book = record (empty_book page usable) { pages = 1 } in
    let more : Table = record { columns = table.columns; entry = next_entry book; rows = map.empty } in
    let schema = put_need usable 5 below_all [] map.empty (next_entry book) payload (entry_row table.name table.columns number).values tt (record { contents = []; each = tt; is = refl }) above is refl size in
    let tables = need_more usable table.name more [] tt tt in
    let none = ap (λ (es : List (Name × Table)). table_need usable (map (λ (e : Name × Table). e.1) es)) (no_entries (slice_cmp nat_cmp) Table) in
    let chain = few_needed usable (length payload - local_size usable (length payload)) least in
    omega (arith, need_is (with_table book table.name table.columns number), schema, tables, none, empty_need usable, chain)

pub first_fits : RecordHasSize → LargeEntry → RowsRise → (page_size page n : ℕ) (first rooted : Pages) (table : Create) (number : ℕ) (payload : List ℕ) → page_size ≤ 65536 → 480 ≤ first.usable → IsPlain table
    → IsBookOf first (record (empty_book page first.usable) { pages = 1 }) → is_taken (empty_book page first.usable) table.name ≡ false → IsEntryRecord table number payload → AddsRoot first rooted number
    → ¬ (IsTooLarge rooted 1 (next_entry (empty_book page first.usable)) payload page_size n)
first_fits has large rises page_size page n first rooted table number payload small least plain is free record_is adds much =
    let book : Book = record (empty_book page first.usable) { pages = 1 } in
    let above = entry_above rises first book is in
    let entry = entry_of has table number payload plain record_is in
    let sized = entry_sized has table number payload plain record_is.bytes record_is.is_record record_is.shortest in
    let within = large page_size n first rooted book table.name table.columns number payload is free entry above adds much in
    let need = first_need page first.usable table number payload least above record_is.is_record sized.is in
    let few : n ≤ 8192 = omega (arith, within, need, sized.few) in
    omega (arith, much.passes, small, mul-le-mul_right page_size few)
