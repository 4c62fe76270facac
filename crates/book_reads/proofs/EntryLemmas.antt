-- The row of the schema that makes a table.
use Rattle.std.proofs.Common.{◌≡◌, ◌≢◌, inl, inr, ℕ, ℤ, pos, cond, List, [], ◌∷◌, ◌++◌, map, Option, Some, None, refl, sym, ap, ap₂, subst, ◌∙◌}
use Rattle.std.specs.Prelude.{unwrap_or}
use Rattle.std.specs.List.{AllByRecursion, AllZip}
use Rattle.std.specs.Ordering.{nat_cmp, int_cmp}
use Rattle.std.specs.Cmp.Lexicographic.{slice_cmp}
use Rattle.std.proofs.lemmas.Cmp.{nat_list_cmp_total}
use Rattle.std.specs.FinMap as map
use Rattle.std.specs.FinMap.{FinMap, get-from_entries}
use Rattle.std.specs.FinMap.Entries.{find}
use Rattle.page_list.specs.Pages.{Pages}
use Rattle.db_format.specs.Record.{OneRecord}
use Rattle.db_format.specs.Create.{OneCreate}
use Rattle.db_format.specs.Schema.{Table as Found, IsPlainRow, IsTableOf, IsSchemaRow}
use Rattle.db_format.specs.declared.value.Value.{Value}
use Rattle.tree_model.specs.Tree.{Row as Stored, Tree, rowid, rows_of}
use Rattle.tree_model.specs.Laws.{RowsRise}
use Rattle.tree_model.proofs.OneWitnessLemmas.{same_found}
use Rattle.book_model.specs.Book.{Name, Row, Table, Book, table_of, table_at}
use Rattle.book_model.specs.Pages.{entries_of, AreTables, IsBook}
use Rattle.book_reads.specs.Reads.{HasSchema, IsEntry, shown_row}
use Rattle.book_reads.specs.Laws.{SchemaRead}
use Rattle.book_reads.proofs.SchemaLemmas.{book_rows, filled_five, no_entries}
use Rattle.book_reads.proofs.NameLemmas.{tied_names, apart_names}

-- a row makes one table
one_made : OneCreate → (size : ℕ) (schema : List (List Value)) (values : List Value) (a b : Found) → IsPlainRow size schema values a → IsPlainRow size schema values b → a ≡ b
one_made one size schema values a b p q = same_first a b (same_found one size schema (values ∷ []) (Some a ∷ []) (Some b ∷ []) (p, tt) (q, tt))
  where
    same_first : (a b : Found) → Some a ∷ [] ≡ Some b ∷ [] → a ≡ b
    same_first a b e = cc

-- rows with their rowids
abbrev pub with_rowids : List Stored → List (List Value) → List (ℤ × List Value)
with_rowids [] contents = []
with_rowids (row ∷ stored) [] = []
with_rowids (row ∷ stored) (values ∷ contents) = (rowid row, values) ∷ with_rowids stored contents

pub five_shown : (stored : List Stored) (contents : List (List Value)) → AllByRecursion IsSchemaRow contents → map shown_row (entries_of 5 stored contents) ≡ with_rowids stored contents
five_shown [] contents five = refl
five_shown (row ∷ stored) [] five = refl
five_shown (row ∷ stored) (values ∷ contents) five =
    ap₂ (λ (v : List Value) (l : List (ℤ × List Value)). (rowid row, v) ∷ l) (filled_five values five.0.five) (five_shown stored contents five.1)

-- the table that stands first under a name has this row of the schema
pub record HasEntry (tables : List (Name × Table)) (name : Name) (entry : ℤ) : Type 0 where
  pub table : Table
  pub there : find (slice_cmp nat_cmp) name tables ≡ Some table
  pub entry_is : table.entry ≡ entry

no_split : {P : Type 0} (before behind : List (ℤ × List Value)) (row : ℤ × List Value) → [] ≡ before ++ row ∷ behind → P
no_split [] behind row e = absurd cc
no_split (b ∷ before) behind row e = absurd cc

same_head : (a b : ℤ × List Value) (s t : List (ℤ × List Value)) → a ∷ s ≡ b ∷ t → a ≡ b
same_head a b s t e = cc

same_tail : (a b : ℤ × List Value) (s t : List (ℤ × List Value)) → a ∷ s ≡ b ∷ t → s ≡ t
same_tail a b s t e = cc

-- the first row that makes a table of a name
pub record Makes (size : ℕ) (schema : List (List Value)) (name : Name) (values : List Value) : Type 0 where
  pub table : Found
  pub makes : IsPlainRow size schema values table
  pub named : table.create.name ≡ name

abbrev pub MakesOther : ℕ → List (List Value) → Name → ℤ × List Value → Type 0
MakesOther size schema name row = (other : Found) → IsPlainRow size schema row.1 other → other.create.name ≢ name

entry_at : OneCreate → (size : ℕ) (schema : List (List Value)) (name : Name) (entry : ℤ) (values : List Value) → Makes size schema name values → (stored : List Stored) (contents : List (List Value))
    (found : List (Option Found)) (trees : List Tree) (tables : List (Name × Table)) (before behind : List (ℤ × List Value)) → AllZip (IsTableOf size schema) contents found → AreTables stored found trees tables
    → with_rowids stored contents ≡ before ++ (entry, values) ∷ behind → AllByRecursion (MakesOther size schema name) before → HasEntry tables name entry
entry_at one size schema name entry values m [] contents found trees tables before behind each are split first = no_split before behind (entry, values) split
entry_at one size schema name entry values m (s ∷ stored) [] found trees tables before behind each are split first = no_split before behind (entry, values) split
entry_at one size schema name entry values m (s ∷ stored) (x ∷ contents) [] trees tables before behind each are split first = absurd each
entry_at one size schema name entry values m (s ∷ stored) (x ∷ contents) (None ∷ found) trees tables [] behind each are split first =
    let same = same_head (rowid s, x) (entry, values) (with_rowids stored contents) behind split in
    let P : ℤ × List Value → Type 0 = λ r. IsPlainRow size schema r.1 m.table in
    absurd (each.0 m.table (subst P (sym same) m.makes))
entry_at one size schema name entry values m (s ∷ stored) (x ∷ contents) (None ∷ found) trees tables (b ∷ before) behind each are split first =
    entry_at one size schema name entry values m stored contents found trees tables before behind each.1 are
    (same_tail (rowid s, x) b (with_rowids stored contents) (before ++ (entry, values) ∷ behind) split) first.1
entry_at one size schema name entry values m (s ∷ stored) (x ∷ contents) (Some f ∷ found) [] tables before behind each are split first = absurd are
entry_at one size schema name entry values m (s ∷ stored) (x ∷ contents) (Some f ∷ found) (tree ∷ trees) [] before behind each are split first = absurd are
entry_at one size schema name entry values m (s ∷ stored) (x ∷ contents) (Some f ∷ found) (tree ∷ trees) (t ∷ tables) [] behind each are split first =
    let same = same_head (rowid s, x) (entry, values) (with_rowids stored contents) behind split in
    let P : ℤ × List Value → Type 0 = λ r. IsPlainRow size schema r.1 m.table in
    let made = one_made one size schema x f m.table each.0 (subst P (sym same) m.makes) in
    let named = are.0.named ∙ ap (λ (g : Found). g.create.name) made ∙ m.named in
    record {
      table = t.1;
      there = ap (λ b. cond b (Some t.1) (find (slice_cmp nat_cmp) name tables)) (tied_names name t.0 (sym named));
      entry_is = are.0.entry_is ∙ ap (λ (r : ℤ × List Value). r.0) same;
    }
entry_at one size schema name entry values m (s ∷ stored) (x ∷ contents) (Some f ∷ found) (tree ∷ trees) (t ∷ tables) (b ∷ before) behind each are split first =
    let same = same_head (rowid s, x) b (with_rowids stored contents) (before ++ (entry, values) ∷ behind) split in
    let P : ℤ × List Value → Type 0 = λ r. IsPlainRow size schema r.1 f in
    let other : name ≢ t.0 = λ e. first.0 f (subst P same each.0) (sym are.0.named ∙ sym e) in
    let more = entry_at one size schema name entry values m stored contents found trees tables before behind each.1 are.1
    (same_tail (rowid s, x) b (with_rowids stored contents) (before ++ (entry, values) ∷ behind) split) first.1 in
    record {
      table = more.table;
      there = ap (λ b. cond b (Some t.1) (find (slice_cmp nat_cmp) name tables)) (apart_names name t.0 other) ∙ more.there;
      entry_is = more.entry_is;
    }

-- so it is in the book
pub book_entry : OneCreate → OneRecord → RowsRise → SchemaRead → (page_size : ℕ) (pages : Pages) (book : Book) (rows : List (ℤ × List Value)) → IsBook page_size pages book → HasSchema pages rows
    → (name : Name) (entry : ℤ) → IsEntry pages.size rows name entry → (table_at book name).entry ≡ entry
book_entry create one rises read page_size pages book rows (inl none) has name entry is =
    let no_rows = read.rows page_size pages book (inl none) rows has ∙ ap (λ (b : Book). map shown_row (map.entries b.schema)) none.1 ∙ ap (map shown_row) (no_entries int_cmp Row) in
    no_split is.before is.behind (entry, is.values) (sym no_rows ∙ is.split)
book_entry create one rises read page_size pages book rows (inr b) has name entry is =
    let same = read.values pages book b rows has in
    let shown = read.rows page_size pages book (inr b) rows has ∙ ap (map shown_row) (book_rows rises one pages book b) ∙ five_shown (rows_of b.schema) b.rows b.whole.five in
    let P : List (List Value) → Type 0 = λ l. IsPlainRow pages.size l is.values is.table in
    let Q : List (List Value) → Type 0 = λ l. AllByRecursion (MakesOther pages.size l name) is.before in
    let m : Makes pages.size b.rows name is.values = record { table = is.table; makes = subst P same is.makes; named = is.named } in
    let h = entry_at create pages.size b.rows name entry is.values m (rows_of b.schema) b.rows b.found b.trees b.tables is.before is.behind b.whole.plain b.each (sym shown ∙ is.split) (subst Q same is.first) in
    let there : table_of book name ≡ Some h.table =
    ap (λ (t : FinMap (slice_cmp nat_cmp) Table). map.get t name) b.tables_are ∙ get-from_entries nat_list_cmp_total b.tables name ∙ h.there in
    ap (λ (o : Option Table). (unwrap_or o (record { columns = []; entry = pos 0; rows = map.empty })).entry) there ∙ h.entry_is
