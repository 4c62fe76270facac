-- The tables that the schema makes are those of the book.
use Rattle.std.proofs.Common.{◌≡◌, inl, inr, ℕ, ℤ, pos, ◌+ℤ◌, ◌≤ℤ◌, ◌<ℤ◌, ◌⊎◌, Bool, true, false, cond, not, ◌&&◌, List, [], ◌∷◌, ◌++◌, map, length, Option, Some, None, Ordering, refl, sym, ap, ap₂, subst, ◌∙◌, arith}
use Rattle.std.specs.Prelude.{filter, is_some, unwrap_or, option_map}
use Rattle.std.specs.List.{list_any, flat_map, AllByRecursion, AllZip}
use Rattle.std.specs.Str.{str_eq_ignore_ascii_case}
use Rattle.std.specs.Ordering.{nat_cmp, int_cmp, eq_by_cmp}
use Rattle.std.specs.Cmp.Lexicographic.{slice_cmp}
use Rattle.std.proofs.lemmas.Cmp.{nat_list_cmp_total}
use Rattle.std.specs.FinMap as map
use Rattle.std.specs.FinMap.{FinMap, nat_cmp-IsAntisymmetric, slice_cmp-IsAntisymmetric, get-entries, get-from_entries, get-empty, len-entries}
use Rattle.std.specs.FinMap.Entries.{find}
use Rattle.page_list.specs.Pages.{Pages}
use Rattle.db_format.specs.Record.{OneRecord}
use Rattle.db_format.specs.Create.{IsIdentifier, OneCreate}
use Rattle.db_format.specs.Schema.{Table as Found, IsTableOf, tables_in}
use Rattle.db_format.specs.Plain.{plain_of, by_name}
use Rattle.db_format.specs.declared.plain.PlainTable.{PlainTable}
use Rattle.db_format.specs.declared.table_list.TableEntry.{TableEntry}
use Rattle.db_format.specs.declared.table_list.TableEntry.TheVariants.{Plain, Foreign}
use Rattle.db_format.specs.declared.value.Value.{Value}
use Rattle.tree_model.specs.Tree.{Row as Stored, Tree, rows_of}
use Rattle.tree_model.specs.Whole.{greatest, IsWholeTree}
use Rattle.tree_model.specs.declared.ends.WalkEnd.{WalkEnd}
use Rattle.tree_model.specs.declared.ends.WalkEnd.TheVariants.{End}
use Rattle.tree_model.specs.Database.{HasRecords}
use Rattle.tree_model.specs.Laws.{RowsRise, PathFinds, WalkGives}
use Rattle.tree_model.proofs.OneWitnessLemmas.{same_found}
use Rattle.book_model.specs.Book.{Name, Row, Table, Book, empty_book, table_of, table_at, is_plain, is_foreign, foreign_names, taken_by, taken as taken_of}
use Rattle.book_model.specs.Pages.{AreTables, foreign_in, once, IsBookOf, IsBook}
use Rattle.book_reads.specs.Reads.{least, ReadsRows, ReadsNext, HasRowOf, Says, SchemaSays, plain_named, is_named, not_plain, shown_row, rows_between, values_at, said, kept, listed, tables_listed}
use Rattle.book_reads.specs.Laws.{OneReading, RowByRow, SchemaRead, MeansBook, MeansName, TablesRead, IsFound, RowRead, RowsRead}
use Rattle.book_reads.proofs.RowLemmas.{HasTable, walk_has, all_between, first_within, shown_length, path_has}
use Rattle.book_reads.proofs.SchemaLemmas.{no_entries}
use Rattle.book_reads.proofs.NameLemmas.{IsKeyed, all_entries, alike_same, named_beside, found_stands, none_stands, some_named}
use Rattle.book_reads.proofs.EntryLemmas.{book_entry}
use Rattle.book_reads.proofs.MapLemmas.{shown_by, same_shown}

-- ---- a table of the schema, and that of the book

pub record Link (pages : Pages) (plain : PlainTable) (table : Table) : Type 0 where
  pub columns : table.columns ≡ plain.create.columns
  pub rows : HasTable (length plain.create.columns) pages plain.root table.rows

-- there is one where there is the other
abbrev pub AreLinked : Pages → Option PlainTable → Option Table → Type 0
AreLinked pages None None = Unit {0}
AreLinked pages None (Some table) = ⊥
AreLinked pages (Some plain) None = ⊥
AreLinked pages (Some plain) (Some table) = Link pages plain table

abbrev pub named : List Found → List (Name × PlainTable)
named tables = map (λ table. (table.create.name, plain_of table)) tables

linked_more : (pages : Pages) (b : Bool) (plain : PlainTable) (table : Table) (p : Option PlainTable) (t : Option Table) → Link pages plain table → AreLinked pages p t
    → AreLinked pages (cond b (Some plain) p) (cond b (Some table) t)
linked_more pages true plain table p t here more = here
linked_more pages false plain table p t here more = more

abbrev at : {X : Type 0} → Name → List (Name × X) → Option X
at name es = find (slice_cmp nat_cmp) name es

pub linked : (pages : Pages) (name : Name) (entries : List Stored) (found : List (Option Found)) (trees : List Tree) (tables : List (Name × Table)) → AreTables entries found trees tables
    → AllZip (IsWholeTree pages) (map (λ table. table.root) (tables_in found)) trees → AllZip HasRecords (tables_in found) trees
    → AreLinked pages (at name (named (tables_in found))) (at name tables)
linked pages name [] [] [] [] are whole records = tt
linked pages name [] [] [] (t ∷ tables) are whole records = absurd are
linked pages name [] [] (tree ∷ trees) tables are whole records = absurd are
linked pages name [] (f ∷ found) trees tables are whole records = absurd are
linked pages name (entry ∷ entries) [] trees tables are whole records = absurd are
linked pages name (entry ∷ entries) (None ∷ found) trees tables are whole records = linked pages name entries found trees tables are whole records
linked pages name (entry ∷ entries) (Some f ∷ found) [] tables are whole records = absurd are
linked pages name (entry ∷ entries) (Some f ∷ found) (tree ∷ trees) [] are whole records = absurd are
linked pages name (entry ∷ entries) (Some f ∷ found) (tree ∷ trees) (t ∷ tables) are whole records =
    let here : Link pages (plain_of f) t.1 = record { columns = are.0.columns; rows = record { tree = tree; whole = whole.0; few = records.0; has = are.0.rows } } in
    let more = linked pages name entries found trees tables are.1 whole.1 records.1 in
    let test : Name → Bool = λ n. eq_by_cmp (slice_cmp nat_cmp) name n in
    let P : Name → Type 0 = λ n. AreLinked pages (cond (test f.create.name) (Some (plain_of f)) (at name (named (tables_in found)))) (cond (test n) (Some t.1) (at name tables)) in
    subst P (sym are.0.named) (linked_more pages (test f.create.name) (plain_of f) t.1 (at name (named (tables_in found))) (at name tables) here more)

-- the same of the whole schema
pub book_linked : (pages : Pages) (book : Book) → (is : IsBookOf pages book) → (name : Name) → AreLinked pages (map.get (by_name (tables_in is.found)) name) (map.get book.tables name)
book_linked pages book is name =
    let here = get-from_entries nat_list_cmp_total (named (tables_in is.found)) name in
    let there = ap (λ (m : FinMap (slice_cmp nat_cmp) Table). map.get m name) is.tables_are ∙ get-from_entries nat_list_cmp_total is.tables name in
    let P : Option PlainTable → Type 0 = λ p. AreLinked pages p (map.get book.tables name) in
    let Q : Option Table → Type 0 = λ t. AreLinked pages (at name (named (tables_in is.found))) t in
    subst P (sym here) (subst Q (sym there) (linked pages name (rows_of is.schema) is.found is.trees is.tables is.each is.whole.whole.each_tree.1 is.whole.records))

-- ---- names of plain tables have small letters

keyed : (size : ℕ) (schema rows : List (List Value)) (found : List (Option Found)) → AllZip (IsTableOf size schema) rows found → AllByRecursion IsKeyed (named (tables_in found))
keyed size schema [] [] each = tt
keyed size schema [] (f ∷ found) each = absurd each
keyed size schema (row ∷ rows) [] each = absurd each
keyed size schema (row ∷ rows) (None ∷ found) each = keyed size schema rows found each.1
keyed size schema (row ∷ rows) (Some f ∷ found) each = (record { named = refl; identifier = each.0.spelled.plain.named }, keyed size schema rows found each.1)

pub names_keyed : (size : ℕ) (rows : List (List Value)) (found : List (Option Found)) → AllZip (IsTableOf size rows) rows found → AllByRecursion IsKeyed (map.entries (by_name (tables_in found)))
names_keyed size rows found each =
    all_entries (slice_cmp nat_cmp) nat_list_cmp_total (slice_cmp-IsAntisymmetric nat_cmp-IsAntisymmetric) IsKeyed (named (tables_in found)) (no_entries (slice_cmp nat_cmp) PlainTable) (keyed size rows rows found each)

-- ---- what the schema says, by name, and the book

pub record AreSaid (pages : Pages) (book : Book) (plain : List PlainTable) (foreign taken : List Name) : Type 0 where
  pub tables : FinMap (slice_cmp nat_cmp) PlainTable
  pub plain_are : plain ≡ map.values tables
  pub each : AllByRecursion IsKeyed (map.entries tables)
  pub links : (name : Name) → AreLinked pages (map.get tables name) (map.get book.tables name)
  pub foreign_are : foreign ≡ book.foreign
  pub taken_are : taken ≡ taken_of book

taken_shown : (es : List (ℤ × Row)) → flat_map taken_by (map (λ (row : ℤ × List Value). row.1) (map shown_row es)) ≡ flat_map (λ (row : Row). taken_by row.values) (map (λ e. e.1) es)
taken_shown [] = refl
taken_shown (e ∷ es) = ap (λ (l : List Name). taken_by e.1.values ++ l) (taken_shown es)

said_by_book : OneCreate → SchemaRead → (pages : Pages) (book : Book) (plain : List PlainTable) (foreign taken : List Name) → IsBookOf pages book → SchemaSays pages plain foreign taken
    → AreSaid pages book plain foreign taken
said_by_book create read pages book plain foreign taken is s =
    let P : List (List Value) → Type 0 = λ rows. Says pages.size rows plain foreign taken in
    let says = subst P (read.values pages book is s.rows s.has) s.says in
    let founds = same_found create pages.size is.rows is.rows says.found is.found says.each is.whole.plain in
    let shown = read.rows 0 pages book (inr is) s.rows s.has in
    record {
      tables = by_name (tables_in is.found);
      plain_are = says.plain_are ∙ ap (λ (l : List (Option Found)). map.values (by_name (tables_in l))) founds;
      each = names_keyed pages.size is.rows is.found is.whole.plain;
      links = book_linked pages book is;
      foreign_are = says.foreign_are ∙ ap (λ (l : List (Option Found)). once (foreign_in is.rows l)) founds ∙ sym is.foreign_are;
      taken_are = s.says.taken_are ∙ ap (λ (l : List (ℤ × List Value)). flat_map taken_by (map (λ row. row.1) l)) shown ∙ taken_shown (map.entries book.schema);
    }

-- of no rows nothing is said
none_found : (size : ℕ) (found : List (Option Found)) → AllZip (IsTableOf size []) [] found → found ≡ []
none_found size [] each = refl
none_found size (f ∷ found) each = absurd each

pub record SaysNone (plain : List PlainTable) (foreign taken : List Name) : Type 0 where
  pub no_plain : plain ≡ []
  pub no_foreign : foreign ≡ []
  pub no_taken : taken ≡ []

says_none : (size : ℕ) (plain : List PlainTable) (foreign taken : List Name) → Says size [] plain foreign taken → SaysNone plain foreign taken
says_none size plain foreign taken says =
    let none = none_found size says.found says.each in
    record {
      no_plain = says.plain_are ∙ ap (λ (l : List (Option Found)). map.values (by_name (tables_in l))) none ∙ ap (map (λ (e : Name × PlainTable). e.1)) (no_entries (slice_cmp nat_cmp) PlainTable);
      no_foreign = says.foreign_are ∙ ap (λ (l : List (Option Found)). once (foreign_in [] l)) none;
      no_taken = says.taken_are;
    }

both_none : (pages : Pages) (name : Name) → AreLinked pages (map.get (map.empty {X = PlainTable} {R = slice_cmp nat_cmp}) name) (map.get (map.empty {X = Table} {R = slice_cmp nat_cmp}) name)
both_none pages name =
    let P : Option PlainTable → Type 0 = λ p. AreLinked pages p (map.get (map.empty {X = Table} {R = slice_cmp nat_cmp}) name) in
    let Q : Option Table → Type 0 = λ t. AreLinked pages None t in
    subst P (sym (get-empty (slice_cmp nat_cmp) name)) (subst Q (sym (get-empty (slice_cmp nat_cmp) name)) tt)

said_of_none : SchemaRead → (page_size : ℕ) (pages : Pages) (book : Book) (plain : List PlainTable) (foreign taken : List Name) → pages.size ≡ 0 → book ≡ empty_book page_size pages.usable
    → SchemaSays pages plain foreign taken → AreSaid pages book plain foreign taken
said_of_none read page_size pages book plain foreign taken none is s =
    let empty : Book = empty_book page_size pages.usable in
    let no_rows = read.rows page_size pages empty (inl (none, refl)) s.rows s.has ∙ ap (map shown_row) (no_entries int_cmp Row) in
    let P : List (ℤ × List Value) → Type 0 = λ rows. Says pages.size (map (λ row. row.1) rows) plain foreign taken in
    let says = says_none pages.size plain foreign taken (subst P no_rows s.says) in
    let B : Book → Type 0 = λ b. AreSaid pages b plain foreign taken in
    let E : List (Name × PlainTable) → Type 0 = AllByRecursion IsKeyed in
    subst B (sym is) (record {
      tables = map.empty;
      plain_are = says.no_plain ∙ sym (ap (map (λ (e : Name × PlainTable). e.1)) (no_entries (slice_cmp nat_cmp) PlainTable));
      each = subst E (sym (no_entries (slice_cmp nat_cmp) PlainTable)) tt;
      links = both_none pages;
      foreign_are = says.no_foreign;
      taken_are = says.no_taken ∙ sym (ap (λ (es : List (ℤ × Row)). flat_map (λ (row : Row). taken_by row.values) (map (λ e. e.1) es)) (no_entries int_cmp Row));
    })

pub are_said : OneCreate → SchemaRead → (page_size : ℕ) (pages : Pages) (book : Book) (plain : List PlainTable) (foreign taken : List Name) → IsBook page_size pages book
    → SchemaSays pages plain foreign taken → AreSaid pages book plain foreign taken
are_said create read page_size pages book plain foreign taken (inl none) s = said_of_none read page_size pages book plain foreign taken none.0 none.1 s
are_said create read page_size pages book plain foreign taken (inr is) s = said_by_book create read pages book plain foreign taken is s

-- ---- a table that is found

pub record IsLinked (pages : Pages) (book : Book) (name : Name) (table : PlainTable) : Type 0 where
  pub alike : str_eq_ignore_ascii_case name table.name ≡ true
  pub identifier : IsIdentifier table.name
  pub is : table_of book table.name ≡ Some (table_at book table.name)
  pub link : Link pages table (table_at book table.name)

linked_at : (pages : Pages) (book : Book) (name : Name) (table : PlainTable) (t : Option Table) → str_eq_ignore_ascii_case name table.name ≡ true → IsIdentifier table.name → table_of book table.name ≡ t
    → AreLinked pages (Some table) t → IsLinked pages book name table
linked_at pages book name table None alike identifier is link = absurd link
linked_at pages book name table (Some t) alike identifier is link =
    let at_it : table_at book table.name ≡ t = ap (λ (o : Option Table). unwrap_or o (record { columns = []; entry = pos 0; rows = map.empty })) is in
    record { alike = alike; identifier = identifier; is = is ∙ ap (λ (x : Table). Some x) (sym at_it); link = subst (Link pages table) (sym at_it) link }

pub is_linked : (pages : Pages) (book : Book) (plain : List PlainTable) (foreign taken : List Name) → AreSaid pages book plain foreign taken → (name : Name) (table : PlainTable)
    → plain_named plain name ≡ Some table → IsLinked pages book name table
is_linked pages book plain foreign taken s name table found =
    let stands = found_stands (map.entries s.tables) name table s.each (sym (ap (λ (l : List PlainTable). plain_named l name) s.plain_are) ∙ found) in
    let P : Option PlainTable → Type 0 = λ p. AreLinked pages p (map.get book.tables table.name) in
    linked_at pages book name table (map.get book.tables table.name) stands.alike stands.identifier refl (subst P (get-entries s.tables table.name ∙ stands.there) (s.links table.name))

-- ---- the tables, and what a name stands for

linked_columns : (pages : Pages) (p : Option PlainTable) (t : Option Table) → AreLinked pages p t → option_map (λ (x : PlainTable). x.create.columns) p ≡ option_map (λ (x : Table). x.columns) t
linked_columns pages None None link = refl
linked_columns pages None (Some t) link = absurd link
linked_columns pages (Some p) None link = absurd link
linked_columns pages (Some p) (Some t) link = ap (λ (c : List Name). Some c) (sym link.columns)

said_keyed : (es : List (Name × PlainTable)) → AllByRecursion IsKeyed es → map said (map (λ e. e.1) es) ≡ shown_by (λ (x : PlainTable). x.create.columns) es
said_keyed [] all = refl
said_keyed (e ∷ es) all = ap₂ (λ (n : Name) (l : List (Name × List Name)). (n, e.1.create.columns) ∷ l) (sym all.0.named) (said_keyed es all.1)

same_tables : (pages : Pages) (book : Book) (plain : List PlainTable) (foreign taken : List Name) → AreSaid pages book plain foreign taken → map said plain ≡ map kept (map.entries book.tables)
same_tables pages book plain foreign taken s =
    ap (map said) s.plain_are ∙ said_keyed (map.entries s.tables) s.each
    ∙ same_shown (slice_cmp nat_cmp) (λ (x : PlainTable). x.create.columns) (λ (x : Table). x.columns) nat_list_cmp_total (slice_cmp-IsAntisymmetric nat_cmp-IsAntisymmetric) s.tables book.tables
    (λ q. linked_columns pages (map.get s.tables q) (map.get book.tables q) (s.links q))

names_said : (plain : List PlainTable) → map (λ (e : Name × List Name). e.0) (map said plain) ≡ map (λ table. table.name) plain
names_said [] = refl
names_said (table ∷ plain) = ap (λ (l : List Name). table.name ∷ l) (names_said plain)

names_kept : (es : List (Name × Table)) → map (λ (e : Name × List Name). e.0) (map kept es) ≡ map (λ e. e.0) es
names_kept [] = refl
names_kept (e ∷ es) = ap (λ (l : List Name). e.0 ∷ l) (names_kept es)

others_are : (book : Book) (plain : List PlainTable) (foreign : List Name) → map said plain ≡ map kept (map.entries book.tables) → foreign ≡ book.foreign → not_plain plain foreign ≡ foreign_names book
others_are book plain foreign tables is =
    let names = sym (names_said plain) ∙ ap (map (λ (e : Name × List Name). e.0)) tables ∙ names_kept (map.entries book.tables) in
    λ i. filter (λ name. not (list_any (str_eq_ignore_ascii_case name) (names i))) (is i)

entries_kept : (es : List (Name × Table)) → map (λ (t : Name × List Name). (t.0, Plain (record { name = t.0; columns = t.1 }))) (map kept es)
    ≡ map {B = Name × TableEntry} (λ t. (t.0, Plain (record { name = t.0; columns = t.1.columns }))) es
entries_kept [] = refl
entries_kept (e ∷ es) = ap (λ (l : List (Name × TableEntry)). (e.0, Plain (record { name = e.0; columns = e.1.columns })) ∷ l) (entries_kept es)

all_listed : (book : Book) (plain : List PlainTable) (others : List Name) → map said plain ≡ map kept (map.entries book.tables) → others ≡ foreign_names book
    → listed (map said plain) others ≡ tables_listed book
all_listed book plain others tables names =
    let R : Name → Name → Ordering = slice_cmp nat_cmp in
    ap (λ (l : List (Name × List Name)). listed l others) tables ∙ ap (listed (map kept (map.entries book.tables))) names
    ∙ ap (λ (l : List (Name × TableEntry)). map.values (map.from_entries {R = R} (l ++ map (λ name. (name, Foreign name)) (foreign_names book)))) (entries_kept (map.entries book.tables))

pub means_book : (pages : Pages) (book : Book) (plain : List PlainTable) (foreign taken : List Name) → AreSaid pages book plain foreign taken → MeansBook book plain foreign taken
means_book pages book plain foreign taken s =
    let tables = same_tables pages book plain foreign taken s in
    let others = others_are book plain foreign tables s.foreign_are in
    record { tables = tables; foreign_are = s.foreign_are; not_plain_are = others; listed_are = all_listed book plain (not_plain plain foreign) tables others; taken_are = s.taken_are }

none_linked : (pages : Pages) (t : Option Table) → AreLinked pages None t → is_some t ≡ false
none_linked pages None link = refl
none_linked pages (Some t) link = absurd link

none_plain : (pages : Pages) (book : Book) (plain : List PlainTable) (foreign taken : List Name) → AreSaid pages book plain foreign taken → (name : Name) → plain_named plain name ≡ None → is_plain book name ≡ false
none_plain pages book plain foreign taken s name none =
    let there = none_stands (map.entries s.tables) name s.each (sym (ap (λ (l : List PlainTable). plain_named l name) s.plain_are) ∙ none) in
    let P : Option PlainTable → Type 0 = λ p. AreLinked pages p (map.get book.tables name) in
    none_linked pages (map.get book.tables name) (subst P (get-entries s.tables name ∙ there) (s.links name))

foreign_found : (book : Book) (plain : List PlainTable) (foreign taken : List Name) → MeansBook book plain foreign taken → (name : Name)
    → is_foreign book name ≡ (not (is_some (plain_named plain name)) && is_named foreign name)
foreign_found book plain foreign taken means name =
    ap (list_any (str_eq_ignore_ascii_case name)) (sym means.not_plain_are) ∙ named_beside name (map (λ table. table.name) plain) foreign
    ∙ ap (λ b. not b && is_named foreign name) (some_named plain name)

pub means_name : (pages : Pages) (book : Book) (plain : List PlainTable) (foreign taken : List Name) → AreSaid pages book plain foreign taken → (name : Name) → MeansName book plain foreign taken name
means_name pages book plain foreign taken s name = record {
  found = λ table found. let l = link table found in (l.alike, l.is, l.link.columns);
  none = none;
  foreign_is = foreign_found book plain foreign taken (means_book pages book plain foreign taken s) name;
  taken_is = ap (list_any (str_eq_ignore_ascii_case name)) (sym s.taken_are);
  same = λ small table found. let named = same small table found in
      let P : Name → Type 0 = λ n. table_of book n ≡ Some (table_at book n) in
      (named, subst P named (link table found).is);
  plain_is = λ small. by small (plain_named plain name) refl;
}
  where
    link : (table : PlainTable) → plain_named plain name ≡ Some table → IsLinked pages book name table
    link table found = is_linked pages book plain foreign taken s name table found

    none : plain_named plain name ≡ None → is_plain book name ≡ false
    none is = none_plain pages book plain foreign taken s name is

    same : IsIdentifier name → (table : PlainTable) → plain_named plain name ≡ Some table → table.name ≡ name
    same small table found = let l = link table found in sym (alike_same name table.name small l.identifier l.alike)

    by : IsIdentifier name → (o : Option PlainTable) → plain_named plain name ≡ o → is_plain book name ≡ is_some (plain_named plain name)
    by small None is = none is ∙ sym (ap (λ (o : Option PlainTable). is_some o) is)
    by small (Some table) is =
        ap (is_plain book) (sym (same small table is)) ∙ ap (λ (o : Option Table). is_some o) (link table is).is ∙ sym (ap (λ (o : Option PlainTable). is_some o) is)

pub tables_read : OneCreate → OneRecord → RowsRise → SchemaRead → TablesRead
tables_read create one rises read = record {
  tables = λ page_size pages book plain foreign taken is s. means_book pages book plain foreign taken (are_said create read page_size pages book plain foreign taken is s);
  names = λ page_size pages book plain foreign taken is s. means_name pages book plain foreign taken (are_said create read page_size pages book plain foreign taken is s);
  entry = book_entry create one rises read;
}

-- ---- its rows

pub found_table : OneCreate → SchemaRead → (page_size : ℕ) (pages : Pages) (book : Book) (name : Name) (table : PlainTable) → IsFound page_size pages book name table
    → HasTable (length table.create.columns) pages table.root (table_at book table.name).rows
found_table create read page_size pages book name table f =
    (is_linked pages book f.plain f.foreign f.taken (are_said create read page_size pages book f.plain f.foreign f.taken f.is_book f.says) name table f.finds).link.rows

pub row_read : OneReading → OneCreate → SchemaRead → RowsRise → PathFinds → RowRead
row_read reading create read rises finds = record {
  has = has;
  is = λ page_size pages book name table f rowid values reads.
      reading.row (length table.create.columns) pages table.root rowid values (values_at (table_at book table.name).rows rowid) reads (has page_size pages book name table f rowid);
  no_fault = λ page_size pages book name table f rowid fault.
      reading.no_fault (length table.create.columns) pages table.root rowid (values_at (table_at book table.name).rows rowid) fault (has page_size pages book name table f rowid);
}
  where
    has : (page_size : ℕ) (pages : Pages) (book : Book) (name : Name) (table : PlainTable) → IsFound page_size pages book name table → (rowid : ℤ)
        → HasRowOf (length table.create.columns) pages table.root rowid (values_at (table_at book table.name).rows rowid)
    has page_size pages book name table f rowid =
        path_has rises finds (length table.create.columns) pages table.root (table_at book table.name).rows (found_table create read page_size pages book name table f) rowid

before_next : (a b c : ℤ) → a ≤ℤ b → b ≤ℤ c → a ≤ℤ (c +ℤ pos 1)
before_next a b c p q = grind (arith, p, q)

past_it : (at high : ℤ) → at ≡ high → high <ℤ (at +ℤ pos 1)
past_it at high same = grind (arith, same)

pub rows_read : OneReading → RowByRow → OneCreate → SchemaRead → RowsRise → WalkGives → RowsRead
rows_read reading steps create read rises gives = record {
  has = has;
  are = are;
  count = λ page_size pages book name table f rows end reads.
      let rows_of_it : FinMap int_cmp Row = (table_at book table.name).rows in
      let all = all_between rises (length table.create.columns) pages table.root rows_of_it (found_table create read page_size pages book name table f) in
      ap (λ (l : List (ℤ × List Value)). length l) ((are page_size pages book name table f least greatest (grind arith) rows end reads).0 ∙ all)
      ∙ shown_length (map.entries rows_of_it) ∙ sym (len-entries rows_of_it);
  next = next;
}
  where
    has : (page_size : ℕ) (pages : Pages) (book : Book) (name : Name) (table : PlainTable) → IsFound page_size pages book name table → (low high : ℤ) → least ≤ℤ low
        → ReadsRows (length table.create.columns) pages table.root low high (rows_between low high (table_at book table.name).rows) End
    has page_size pages book name table f low high above =
        walk_has rises gives (length table.create.columns) pages table.root (table_at book table.name).rows (found_table create read page_size pages book name table f) low high above

    are : (page_size : ℕ) (pages : Pages) (book : Book) (name : Name) (table : PlainTable) → IsFound page_size pages book name table → (low high : ℤ) → least ≤ℤ low
        → (rows : List (ℤ × List Value)) (end : WalkEnd) → ReadsRows (length table.create.columns) pages table.root low high rows end
        → (rows ≡ rows_between low high (table_at book table.name).rows) × (end ≡ End)
    are page_size pages book name table f low high above rows end reads =
        reading.rows (length table.create.columns) pages table.root low high rows (rows_between low high (table_at book table.name).rows) end End reads
        (has page_size pages book name table f low high above)

    after : (page_size : ℕ) (pages : Pages) (book : Book) (name : Name) (table : PlainTable) → IsFound page_size pages book name table → (high : ℤ) (row : ℤ × List Value) (more : List (ℤ × List Value))
        → least ≤ℤ (row.0 +ℤ pos 1) → ((row.0 ≡ high) × (more ≡ []) × (End ≡ End)) ⊎ ((row.0 <ℤ high) × ReadsRows (length table.create.columns) pages table.root (row.0 +ℤ pos 1) high more End)
        → more ≡ rows_between (row.0 +ℤ pos 1) high (table_at book table.name).rows
    after page_size pages book name table f high row more above (inl at_end) =
        let past : high <ℤ (row.0 +ℤ pos 1) = past_it row.0 high at_end.0 in
        at_end.1 ∙ (are page_size pages book name table f (row.0 +ℤ pos 1) high above [] End (record { stored = []; walks = inl (past, refl, refl); each = tt })).0
    after page_size pages book name table f high row more above (inr later) = (are page_size pages book name table f (row.0 +ℤ pos 1) high above more End later.1).0

    next : (page_size : ℕ) (pages : Pages) (book : Book) (name : Name) (table : PlainTable) → IsFound page_size pages book name table → (low high : ℤ) → least ≤ℤ low → low ≤ℤ high
        → (row : ℤ × List Value) → ReadsNext (length table.create.columns) pages table.root high low row
        → rows_between low high (table_at book table.name).rows ≡ row ∷ rows_between (row.0 +ℤ pos 1) high (table_at book table.name).rows
    next page_size pages book name table f low high above some row is =
        let columns : ℕ = length table.create.columns in
        let kept_rows : FinMap int_cmp Row = (table_at book table.name).rows in
        let reads = has page_size pages book name table f low high above in
        let split = steps.begins columns pages table.root low high row (rows_between low high kept_rows) End some is reads in
        let P : List (ℤ × List Value) → Type 0 = λ l. ReadsRows columns pages table.root low high l End in
        let on : low ≤ℤ row.0 = first_within low high (map.entries kept_rows) row split.0 split.1 in
        let next : least ≤ℤ (row.0 +ℤ pos 1) = before_next least low row.0 above on in
        let rest = after page_size pages book name table f high row split.0 next (steps.first columns pages table.root low high row split.0 End (subst P split.1 reads)).2 in
        split.1 ∙ ap (λ (l : List (ℤ × List Value)). row ∷ l) rest
