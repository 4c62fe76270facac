-- Whole pages have one book.
use Rattle.std.proofs.Common.{◌≡◌, inl, inr, ℕ, List, [], ◌∷◌, length, map, reverse, Option, Some, None, refl, sym, ap, ap₂, subst, ◌∙◌, arith}
use Rattle.std.specs.List.{AllByRecursion, AllZip}
use Rattle.std.specs.Ordering.{int_cmp}
use Rattle.std.specs.FinMap as map
use Rattle.std.specs.FinMap.{FinMap}
use Rattle.page_list.specs.Pages.{Pages, word}
use Rattle.page_list.specs.Freelist.{free_pages}
use Rattle.db_format.specs.Header.{page_of}
use Rattle.db_format.specs.Record.{IsRecord, OneRecord}
use Rattle.db_format.specs.Schema.{Table as Found, tables_in, IsRecordOf}
use Rattle.db_format.specs.declared.value.Value.{Value}
use Rattle.tree_model.specs.Tree.{Row as Stored, Tree, rowid, rows_of}
use Rattle.tree_model.specs.Whole.{named_pages}
use Rattle.tree_model.specs.Database.{IsWitness, IsWhole, HasRecords}
use Rattle.tree_model.specs.Laws.{OneWitness}
use Rattle.tree_model.proofs.OneWitnessLemmas.{same_records}
use Rattle.tree_laws.specs.Whole.{missing_in}
use Rattle.book_model.specs.Book.{Name, Row, Table, Book, empty_book}
use Rattle.book_model.specs.Pages.{entries_of, HasRows, IsTable, AreTables, foreign_in, once, IsBookOf, IsBook}
use Rattle.book_model.specs.Laws.{BookOfPages}

-- ---- one book alone

same_rows : OneRecord → (columns : ℕ) (stored : List Stored) (a b : FinMap int_cmp Row) → HasRows columns stored a → HasRows columns stored b → a ≡ b
same_rows one columns stored a b p q =
    p.is ∙ ap (λ (c : List (List Value)). map.from_entries (entries_of columns stored c)) (same_records one stored p.contents q.contents p.each q.each) ∙ sym q.is

same_table : OneRecord → (entry : Stored) (found : Found) (tree : Tree) (a b : Name × Table) → IsTable entry found tree a.0 a.1 → IsTable entry found tree b.0 b.1 → a ≡ b
same_table one entry found tree a b p q =
    let names = p.named ∙ sym q.named in
    let columns = p.columns ∙ sym q.columns in
    let entries = p.entry_is ∙ sym q.entry_is in
    let rows = same_rows one (length found.create.columns) (rows_of tree) a.1.rows b.1.rows p.rows q.rows in
    λ i. (names i, record { columns = columns i; entry = entries i; rows = rows i })

same_tables : OneRecord → (entries : List Stored) (found : List (Option Found)) (trees : List Tree) (a b : List (Name × Table)) → AreTables entries found trees a
    → AreTables entries found trees b → a ≡ b
same_tables one [] [] [] [] [] p q = refl
same_tables one [] [] [] [] (y ∷ b) p q = absurd q
same_tables one [] [] [] (x ∷ a) b p q = absurd p
same_tables one [] [] (tree ∷ trees) a b p q = absurd p
same_tables one [] (f ∷ found) trees a b p q = absurd p
same_tables one (entry ∷ entries) [] trees a b p q = absurd p
same_tables one (entry ∷ entries) (None ∷ found) trees a b p q = same_tables one entries found trees a b p q
same_tables one (entry ∷ entries) (Some f ∷ found) [] a b p q = absurd p
same_tables one (entry ∷ entries) (Some f ∷ found) (tree ∷ trees) [] b p q = absurd p
same_tables one (entry ∷ entries) (Some f ∷ found) (tree ∷ trees) (x ∷ a) [] p q = absurd q
same_tables one (entry ∷ entries) (Some f ∷ found) (tree ∷ trees) (x ∷ a) (y ∷ b) p q =
    ap₂ (λ (t : Name × Table) (l : List (Name × Table)). t ∷ l) (same_table one entry f tree x y p.0 q.0) (same_tables one entries found trees a b p.1 q.1)

same_book : OneRecord → OneWitness → (pages : Pages) (a b : Book) → IsBookOf pages a → IsBookOf pages b → a ≡ b
same_book one witness pages a b p q =
    let same = witness pages p.schema q.schema p.rows q.rows p.found q.found p.trees q.trees p.trunks q.trunks p.whole q.whole in
    let schemas = same.0 in
    let rows = same.1 in
    let founds = same.2 in
    let trees = same.3 in
    let trunks = same.4 in
    let w : ◌≡◌ {A = Tree × List (Option Found) × List Tree} (p.schema, p.found, p.trees) (q.schema, q.found, q.trees) = λ i. (schemas i, founds i, trees i) in
    let T : Tree × List (Option Found) × List Tree → Type 0 = λ w. AreTables (rows_of w.0) w.1 w.2 q.tables in
    let listed = same_tables one (rows_of p.schema) p.found p.trees p.tables q.tables p.each (subst T (sym w) q.each) in
    let tables = p.tables_are ∙ ap map.from_entries listed ∙ sym q.tables_are in
    let foreign = p.foreign_are ∙ (λ i. once (foreign_in (rows i) (founds i))) ∙ sym q.foreign_are in
    let R : Tree → Type 0 = λ t. HasRows 5 (rows_of t) b.schema in
    let schema = same_rows one 5 (rows_of p.schema) a.schema b.schema p.schema_is (subst R (sym schemas) q.schema_is) in
    let unnamed = p.unnamed_are ∙ (λ i. map (λ n. (n, pages.bytes n)) (reverse (missing_in
    (named_pages (1 ∷ map (λ table. table.root) (tables_in (founds i))) (schemas i ∷ trees i) (trunks i)) pages.size))) ∙ sym q.unnamed_are in
    let counter = p.counter_is ∙ sym q.counter_is in
    let sizes = p.pages_are ∙ sym q.pages_are in
    let free = p.free_are ∙ (λ i. length (free_pages (trunks i))) ∙ sym q.free_are in
    let page = p.page_is ∙ sym q.page_is in
    let usable = p.usable_is ∙ sym q.usable_is in
    λ i. record {
      tables = tables i;
      foreign = foreign i;
      schema = schema i;
      unnamed = unnamed i;
      counter = counter i;
      pages = sizes i;
      free = free i;
      page = page i;
      usable = usable i;
    }

-- a book of trees is that of a page at least
some_page : (pages : Pages) (book : Book) → pages.size ≡ 0 → ¬ (IsBookOf pages book)
some_page pages book none is = omega (arith, none, is.whole.whole.header.there.least, is.whole.whole.header.there.most)

one_book : OneRecord → OneWitness → (page_size : ℕ) (pages : Pages) (a b : Book) → IsBook page_size pages a → IsBook page_size pages b → a ≡ b
one_book one witness page_size pages a b (inl p) (inl q) = p.1 ∙ sym q.1
one_book one witness page_size pages a b (inl p) (inr q) = absurd (some_page pages b p.0 q)
one_book one witness page_size pages a b (inr p) (inl q) = absurd (some_page pages a q.0 p)
one_book one witness page_size pages a b (inr p) (inr q) = same_book one witness pages a b p q

-- ---- it has one

contents_of : (columns : ℕ) (stored : List Stored) → AllByRecursion (λ row. IsRecordOf columns row.payload) stored
    → (contents : List (List Value)) × AllZip (λ row values. IsRecord row.payload values) stored contents
contents_of columns [] all = ([], tt)
contents_of columns (row ∷ stored) all =
    let more = contents_of columns stored all.1 in
    (all.0.values ∷ more.0, (all.0.is_record, more.1))

rows_from : (columns : ℕ) (stored : List Stored) (contents : List (List Value)) → AllZip (λ row values. IsRecord row.payload values) stored contents
    → HasRows columns stored (map.from_entries (entries_of columns stored contents))
rows_from columns stored contents each = record { contents = contents; each = each; is = refl }

tables_from : (P : Stored → List Value → Type 0) (Q : List Value → Option Found → Type 0) (entries : List Stored) (rows : List (List Value)) (found : List (Option Found)) (trees : List Tree)
    → AllZip P entries rows → AllZip Q rows found → AllZip HasRecords (tables_in found) trees → (tables : List (Name × Table)) × AreTables entries found trees tables
tables_from P Q [] [] [] [] p q all = ([], tt)
tables_from P Q [] [] [] (tree ∷ trees) p q all = absurd all
tables_from P Q [] [] (f ∷ found) trees p q all = absurd q
tables_from P Q [] (values ∷ rows) found trees p q all = absurd p
tables_from P Q (entry ∷ entries) [] found trees p q all = absurd p
tables_from P Q (entry ∷ entries) (values ∷ rows) [] trees p q all = absurd q
tables_from P Q (entry ∷ entries) (values ∷ rows) (None ∷ found) trees p q all = tables_from P Q entries rows found trees p.1 q.1 all
tables_from P Q (entry ∷ entries) (values ∷ rows) (Some f ∷ found) [] p q all = absurd all
tables_from P Q (entry ∷ entries) (values ∷ rows) (Some f ∷ found) (tree ∷ trees) p q all =
    let more = tables_from P Q entries rows found trees p.1 q.1 all.1 in
    let columns : ℕ = length f.create.columns in
    let has = contents_of columns (rows_of tree) all.0 in
    let table : Table = record { columns = f.create.columns; entry = rowid entry; rows = map.from_entries (entries_of columns (rows_of tree) has.0) } in
    let is : IsTable entry f tree f.create.name table = record { named = refl; columns = refl; entry_is = refl; rows = rows_from columns (rows_of tree) has.0 has.1 } in
    ((f.create.name, table) ∷ more.0, (is, more.1))

book_from : (pages : Pages) → IsWitness pages → (book : Book) × IsBookOf pages book
book_from pages w =
    let made = tables_from _ _ (rows_of w.schema) w.rows w.found w.trees w.is_whole.schema_rows w.is_whole.plain w.is_whole.records in
    let book : Book = record {
      tables = map.from_entries made.0;
      foreign = once (foreign_in w.rows w.found);
      schema = map.from_entries (entries_of 5 (rows_of w.schema) w.rows);
      unnamed = map (λ n. (n, pages.bytes n)) (reverse (missing_in (named_pages (1 ∷ map (λ table. table.root) (tables_in w.found)) (w.schema ∷ w.trees) w.trunks) pages.size));
      counter = word pages 1 24;
      pages = pages.size;
      free = length (free_pages w.trunks);
      page = page_of (pages.bytes 1);
      usable = pages.usable;
    } in (
      book,
      record {
        schema = w.schema;
        rows = w.rows;
        found = w.found;
        trees = w.trees;
        trunks = w.trunks;
        whole = w.is_whole;
        tables = made.0;
        each = made.1;
        tables_are = refl;
        foreign_are = refl;
        schema_is = rows_from 5 (rows_of w.schema) w.rows w.is_whole.schema_rows;
        unnamed_are = refl;
        counter_is = refl;
        pages_are = refl;
        free_are = refl;
        page_is = refl;
        usable_is = refl;
      },
    )

has_book : (page_size : ℕ) (pages : Pages) → IsWhole pages → (book : Book) × IsBook page_size pages book
has_book page_size pages (inl none) = (empty_book page_size pages.usable, inl (none, refl))
has_book page_size pages (inr w) = let made = book_from pages w in (made.0, inr made.1)

-- the pages of a book are whole
book_whole : (page_size : ℕ) (pages : Pages) (book : Book) → IsBook page_size pages book → IsWhole pages
book_whole page_size pages book (inl none) = inl none.0
book_whole page_size pages book (inr is) = inr (record { schema = is.schema; rows = is.rows; found = is.found; trees = is.trees; trunks = is.trunks; is_whole = is.whole })

pub book_of_pages : OneRecord → OneWitness → BookOfPages
book_of_pages one witness = record { has = has_book; one = one_book one witness; whole = book_whole }
