-- Books: a plain table is not foreign, and a row that was put is there.
use Rattle.std.proofs.Common.{◌≡◌, ℤ, pos, true, false, cond, ◌||◌, inl, inr, List, [], ◌∷◌, filter, Option, Some, refl, ap, sym, ◌∙◌, not}
use Rattle.std.specs.Prelude.{is_some, unwrap_or}
use Rattle.std.specs.List.{list_any}
use Rattle.std.specs.Str.{str_eq_ignore_ascii_case, str_to_ascii_lowercase}
use Rattle.std.specs.Ordering.{nat_cmp, is_eq}
use Rattle.std.specs.Cmp.{IsTotalOrder, int_cmp_total}
use Rattle.std.specs.Cmp.Lexicographic.{slice_cmp}
use Rattle.std.specs.FinMap as map
use Rattle.std.specs.FinMap.{FinMap, get-insert, contains_key-keys}
use Rattle.std.proofs.lemmas.Bool.{cases_Bool, or_left, or_right}
use Rattle.std.proofs.lemmas.Slice.Eq.{bytes_eq-Decides}
use Rattle.std.proofs.lemmas.Map.Text.{is_eq-slice_cmp}
use Rattle.std.proofs.lemmas.Cmp.{nat_list_cmp_total, eq_by_cmp_equiv}
use Rattle.db_format.specs.declared.value.Value.{Value}
use Rattle.book_model.specs.Book.{Book, Name, Table, table_at, is_plain, is_foreign, written_row, with_row}
use Rattle.shell_model.specs.Cases.{Pick, sized}
use Rattle.shell_laws.specs.Laws.{HasRow}
use Rattle.shell_laws.proofs.CaseLemmas.{never}

-- what was inserted is found
get-insert_same : {K X : Type 0} {R : K → K → _} (o : IsTotalOrder R) (m : FinMap R X) (k : K) (v : X) → map.get (map.insert m k v) k ≡ Some v
get-insert_same o m k v = get-insert o m k v k ∙ ap (λ b. cond b (Some v) (map.get m k)) ((eq_by_cmp_equiv o).refl k)

-- a book after a put has the row, whichever pages it has
pub has_put : (pick : Pick) (book : Book) (name : Name) (rowid : ℤ) (values : List Value) → HasRow (sized pick (with_row book name rowid values)) name rowid values
has_put pick book name rowid values =
    let table : Table = record (table_at book name) { rows = map.insert (table_at book name).rows rowid (written_row values) } in
    let there : map.get (map.insert book.tables name table) name ≡ Some table = get-insert_same nat_list_cmp_total book.tables name table in
    record {
      plain = ap is_some there;
      row = ap (λ (o : Option Table). map.get (unwrap_or o (record { columns = []; entry = pos 0; rows = map.empty })).rows rowid) there
          ∙ get-insert_same int_cmp_total (table_at book name).rows rowid (written_row values);
    }

-- a name among others is found by one that is the same in letters of either case
found_too : (name other : Name) (names : List Name) → str_eq_ignore_ascii_case name other ≡ true → list_any (λ n. is_eq (slice_cmp nat_cmp name n)) names ≡ true → list_any (str_eq_ignore_ascii_case other) names ≡ true
found_too name other [] same found = absurd (cc)
found_too name other (n ∷ names) same found = elim (cases_Bool (is_eq (slice_cmp nat_cmp name n))) [
  | inl is ↦
      let here : name ≡ n = (bytes_eq-Decides name n).0 (sym (is_eq-slice_cmp name n) ∙ is) in
      let lower : str_to_ascii_lowercase name ≡ str_to_ascii_lowercase other = (bytes_eq-Decides (str_to_ascii_lowercase name) (str_to_ascii_lowercase other)).0 same in
      or_left _ _ ((bytes_eq-Decides (str_to_ascii_lowercase other) (str_to_ascii_lowercase n)).1 (sym lower ∙ ap str_to_ascii_lowercase here))
  | inr apart ↦ or_right _ _ (found_too name other names same (sym (ap (λ b. b || list_any (λ m. is_eq (slice_cmp nat_cmp name m)) names) apart) ∙ found))
]

-- names that are the same as one of the plain ones are left out
left_out : (name : Name) (names plain : List Name) → list_any (λ n. is_eq (slice_cmp nat_cmp name n)) plain ≡ true →
    list_any (str_eq_ignore_ascii_case name) (filter (λ n. not (list_any (str_eq_ignore_ascii_case n) plain)) names) ≡ false
left_out name [] plain found = refl
left_out name (other ∷ names) plain found = elim (cases_Bool (list_any (str_eq_ignore_ascii_case other) plain)) [
  | inl is ↦ rw is (left_out name names plain found)
  | inr out ↦ rw out (elim (cases_Bool (str_eq_ignore_ascii_case name other)) [
    | inl same ↦ never (found_too name other plain same found) out
    | inr apart ↦ rw apart (left_out name names plain found)
  ])
]

-- a plain table is not foreign
pub plain_is_not_foreign : (book : Book) (name : Name) → is_plain book name ≡ true → is_foreign book name ≡ false
plain_is_not_foreign book name plain = left_out name book.foreign (map.keys book.tables) (sym (contains_key-keys book.tables name) ∙ plain)
