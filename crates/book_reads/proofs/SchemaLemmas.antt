-- The schema of pages that have a book.
use Rattle.std.proofs.Common.{◌≡◌, inl, inr, ℕ, ◌-◌, ℤ, List, [], ◌∷◌, ◌++◌, map, length, replicate, append-nil, Ordering, refl, sym, ap, ap₂, subst, ◌∙◌, arith}
use Rattle.std.proofs.lemmas.List.{nil_from_length}
use Rattle.std.specs.List.{AllZip, AllByRecursion}
use Rattle.std.specs.Ordering.{int_cmp}
use Rattle.std.specs.FinMap as map
use Rattle.std.specs.FinMap.{len-entries, len-empty}
use Rattle.page_list.specs.Pages.{Pages}
use Rattle.db_format.specs.Record.{IsRecord, OneRecord}
use Rattle.db_format.specs.Schema.{IsSchemaRow, IsRecordOf}
use Rattle.db_format.specs.declared.value.Value.{Value}
use Rattle.db_format.specs.declared.value.Value.TheVariants.{Null}
use Rattle.tree_model.specs.declared.ends.WalkEnd.TheVariants.{End}
use Rattle.tree_model.specs.Tree.{Row as Stored, rows_of}
use Rattle.tree_model.specs.Whole.{greatest, below_all}
use Rattle.tree_model.specs.Laws.{RowsRise, WalkGives}
use Rattle.tree_model.proofs.OneWitnessLemmas.{same_records}
use Rattle.book_model.specs.Book.{Row, Book}
use Rattle.book_model.specs.Pages.{filled, entries_of, IsBookOf, IsBook}
use Rattle.book_reads.specs.Reads.{least, ReadsRows, HasSchema, shown_row}
use Rattle.book_reads.specs.Laws.{OneReading, SchemaRead}
use Rattle.book_reads.proofs.RowLemmas.{HasTable, entries_are, walk_has, all_between}

pub no_entries : {K : Type 0} (R : K → K → Ordering) (X : Type 0) → map.entries (map.empty {X = X} {R = R}) ≡ []
no_entries R X = nil_from_length (map.entries (map.empty {X = X} {R = R})) (sym (len-entries (map.empty {X = X} {R = R})) ∙ len-empty R X)

five_few : (stored : List Stored) (rows : List (List Value)) → AllZip (λ row values. IsRecord row.payload values) stored rows → AllByRecursion IsSchemaRow rows
    → AllByRecursion (λ row. IsRecordOf 5 row.payload) stored
five_few [] rows each five = tt
five_few (row ∷ stored) [] each five = absurd each
five_few (row ∷ stored) (values ∷ rows) each five = (record { values = values; is_record = each.0; few = omega (arith, five.0.five) }, five_few stored rows each.1 five.1)

pub schema_table : (pages : Pages) (book : Book) → IsBookOf pages book → HasTable 5 pages 1 book.schema
schema_table pages book is = record {
  tree = is.schema;
  whole = is.whole.whole.each_tree.0;
  few = five_few (rows_of is.schema) is.rows is.whole.schema_rows is.whole.five;
  has = is.schema_is;
}

has_schema : RowsRise → WalkGives → (page_size : ℕ) (pages : Pages) (book : Book) → IsBook page_size pages book → HasSchema pages (map shown_row (map.entries book.schema))
has_schema rises gives page_size pages book (inl none) = inl (none.0, ap (λ (b : Book). map shown_row (map.entries b.schema)) none.1 ∙ ap (map shown_row) (no_entries int_cmp Row))
has_schema rises gives page_size pages book (inr is) =
    let table = schema_table pages book is in
    let there = is.whole.whole.header.there in
    let P : List (ℤ × List Value) → Type 0 = λ l. ReadsRows 5 pages 1 least greatest l End in
    inr (omega (arith, there.least, there.most), subst P (all_between rises 5 pages 1 book.schema table) (walk_has rises gives 5 pages 1 book.schema table least greatest (grind arith)))

-- five values are filled up
pub filled_five : (values : List Value) → length values ≡ 5 → filled 5 values ≡ values
filled_five values five = ap (λ n. values ++ replicate (5 - n) Null) five ∙ append-nil values

values_of : (stored : List Stored) (contents : List (List Value)) → AllZip (λ row values. IsRecord row.payload values) stored contents → AllByRecursion IsSchemaRow contents
    → map (λ (row : ℤ × List Value). row.1) (map shown_row (entries_of 5 stored contents)) ≡ contents
values_of [] [] each five = refl
values_of [] (values ∷ contents) each five = absurd each
values_of (row ∷ stored) [] each five = absurd each
values_of (row ∷ stored) (values ∷ contents) each five = ap₂ (λ (v : List Value) (l : List (List Value)). v ∷ l) (filled_five values five.0.five) (values_of stored contents each.1 five.1)

-- the entries of the book's schema are those of the witness
pub book_rows : RowsRise → OneRecord → (pages : Pages) (book : Book) → (is : IsBookOf pages book) → map.entries book.schema ≡ entries_of 5 (rows_of is.schema) is.rows
book_rows rises one pages book is =
    let stored : List Stored = rows_of is.schema in
    let are = entries_are 5 below_all stored book.schema (rises pages 1 is.schema is.whole.whole.each_tree.0) is.schema_is in
    are ∙ ap (entries_of 5 stored) (same_records one stored is.schema_is.contents is.rows is.schema_is.each is.whole.schema_rows)

book_values : RowsRise → OneRecord → (pages : Pages) (book : Book) → (is : IsBookOf pages book) → map (λ (row : ℤ × List Value). row.1) (map shown_row (map.entries book.schema)) ≡ is.rows
book_values rises one pages book is =
    ap (λ (es : List (ℤ × Row)). map (λ (row : ℤ × List Value). row.1) (map shown_row es)) (book_rows rises one pages book is)
    ∙ values_of (rows_of is.schema) is.rows is.whole.schema_rows is.whole.five

pub schema_read : OneReading → OneRecord → RowsRise → WalkGives → SchemaRead
schema_read reading one rises gives = record {
  has = has_schema rises gives;
  rows = λ page_size pages book is rows reads. reading.schema pages rows (map shown_row (map.entries book.schema)) reads (has_schema rises gives page_size pages book is);
  values = λ pages book is rows reads.
      ap (map (λ (row : ℤ × List Value). row.1)) (reading.schema pages rows (map shown_row (map.entries book.schema)) reads (has_schema rises gives 0 pages book (inr is)))
      ∙ book_values rises one pages book is;
  no_fault = λ page_size pages book is fault. reading.not_both pages (map shown_row (map.entries book.schema)) fault (has_schema rises gives page_size pages book is);
}
