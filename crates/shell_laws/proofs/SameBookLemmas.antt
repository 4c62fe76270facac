-- Books of the same tables answer the same, and stay such books when the same is done to both.
use Rattle.std.proofs.Common.{◌≡◌, ℕ, ℤ, ◌+◌, List, reverse, refl, ap, ◌∙◌}
use Rattle.std.specs.Prelude.{option_map, is_some}
use Rattle.std.specs.Ordering.{nat_cmp, int_cmp}
use Rattle.std.specs.Cmp.{int_cmp_total}
use Rattle.std.specs.Cmp.Lexicographic.{slice_cmp}
use Rattle.std.specs.FinMap as map
use Rattle.std.specs.FinMap.{FinMap, int_cmp-IsAntisymmetric}
use Rattle.db_format.specs.declared.value.Value.{Value}
use Rattle.book_model.specs.Book.{Name, Row, Table, Book, table_at, is_plain, is_foreign, is_taken, taken_by, has_row, next_of, next_entry, entry_row, with_table, without_table, with_row, without_row}
use Rattle.shell_model.specs.State.{committed_book}
use Rattle.shell_model.specs.Cases.{Pick, sized, tables_listed}
use Rattle.shell_laws.specs.Agree.{IsSameBook}
use Rattle.shell_laws.proofs.MapLemmas.{shown_by, same_shown, same_keys, same_flat, insert_shown, remove_shown}
use Rattle.std.specs.List.{list_any}
use Rattle.std.specs.Str.{str_eq_ignore_ascii_case}

abbrev names : Row → List Name
names row = taken_by row.values

module _ (a b : Book) (same : IsSameBook a b) where
  shown : shown_by names (map.entries b.schema) ≡ shown_by names (map.entries a.schema)
  shown = same_shown int_cmp names int_cmp_total int_cmp-IsAntisymmetric a.schema b.schema same.names

  pub same_taken : (name : Name) → is_taken b name ≡ is_taken a name
  same_taken name = ap (list_any (str_eq_ignore_ascii_case name)) (same_flat names (map.entries a.schema) (map.entries b.schema) shown)

  same_entry : next_entry b ≡ next_entry a
  same_entry = ap (λ (l : List ℤ). next_of (reverse l)) (same_keys names (map.entries a.schema) (map.entries b.schema) shown)

  pub same_table : (name : Name) → table_at b name ≡ table_at a name
  same_table name = ap (λ (t : FinMap (slice_cmp nat_cmp) Table). table_at (record a { tables = t }) name) same.tables

  pub same_plain : (name : Name) → is_plain b name ≡ is_plain a name
  same_plain name = ap (λ (t : FinMap (slice_cmp nat_cmp) Table). is_some (map.get t name)) same.tables

  pub same_foreign : (name : Name) → is_foreign b name ≡ is_foreign a name
  same_foreign name =
      ap (λ (f : List Name). is_foreign (record a { tables = b.tables; foreign = f }) name) same.foreign
      ∙ ap (λ (t : FinMap (slice_cmp nat_cmp) Table). is_foreign (record a { tables = t }) name) same.tables

  pub same_has : (name : Name) (rowid : ℤ) → has_row b name rowid ≡ has_row a name rowid
  same_has name rowid = ap (λ (t : Table). map.contains_key t.rows rowid) (same_table name)

  pub same_list : tables_listed b ≡ tables_listed a
  same_list =
      ap (λ (f : List Name). tables_listed (record a { tables = b.tables; foreign = f })) same.foreign
      ∙ ap (λ (t : FinMap (slice_cmp nat_cmp) Table). tables_listed (record a { tables = t })) same.tables

  pub table_with : (name : Name) (columns : List Name) (root root' : ℕ) → IsSameBook (with_table a name columns root) (with_table b name columns root')
  table_with name columns root root' = record {
    tables = ap (λ (t : FinMap (slice_cmp nat_cmp) Table). map.insert t name (record { columns = columns; entry = next_entry b; rows = map.empty })) same.tables
        ∙ ap (λ (z : ℤ). map.insert a.tables name (record { columns = columns; entry = z; rows = map.empty })) same_entry;
    foreign = same.foreign;
    names = λ q. ap (λ (z : ℤ). option_map names (map.get (map.insert b.schema z (entry_row name columns root')) q)) same_entry
        ∙ insert_shown int_cmp_total names a.schema b.schema (next_entry a) (entry_row name columns root) (entry_row name columns root') q refl (same.names q);
    counter = same.counter;
  }

  pub table_without : (name : Name) → IsSameBook (without_table a name) (without_table b name)
  table_without name = record {
    tables = ap (λ (t : FinMap (slice_cmp nat_cmp) Table). map.remove t name) same.tables;
    foreign = same.foreign;
    names = λ q. ap (λ (t : Table). option_map names (map.get (map.remove b.schema t.entry) q)) (same_table name)
        ∙ remove_shown int_cmp_total names a.schema b.schema (table_at a name).entry q (same.names q);
    counter = same.counter;
  }

  pub row_with : (name : Name) (rowid : ℤ) (values : List Value) → IsSameBook (with_row a name rowid values) (with_row b name rowid values)
  row_with name rowid values = record {
    tables = ap (λ (t : FinMap (slice_cmp nat_cmp) Table). (with_row (record a { tables = t }) name rowid values).tables) same.tables;
    foreign = same.foreign;
    names = same.names;
    counter = same.counter;
  }

  pub row_without : (name : Name) (rowid : ℤ) → IsSameBook (without_row a name rowid) (without_row b name rowid)
  row_without name rowid = record {
    tables = ap (λ (t : FinMap (slice_cmp nat_cmp) Table). (without_row (record a { tables = t }) name rowid).tables) same.tables;
    foreign = same.foreign;
    names = same.names;
    counter = same.counter;
  }

  pub size_with : (p q : Pick) → IsSameBook (sized p a) (sized q b)
  size_with p q = record { tables = same.tables; foreign = same.foreign; names = same.names; counter = same.counter }

pub commit_with : (k l a b : Book) → IsSameBook k l → IsSameBook a b → IsSameBook (committed_book k a) (committed_book l b)
commit_with k l a b kept same = record { tables = same.tables; foreign = same.foreign; names = same.names; counter = ap (λ n. n + 1) kept.counter }
