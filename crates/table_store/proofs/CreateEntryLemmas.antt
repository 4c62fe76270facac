-- The name of a new table, and the rowid of its row in the schema.
use Rattle.std.proofs.Common.{◌≡◌, ℤ, true, false, ◌||◌, List, [], ◌∷◌, ◌++◌, reverse, ap, ◌∙◌, subst}
use Rattle.std.specs.List.{flat_map}
use Rattle.std.specs.Str.{str_eq_ignore_ascii_case}
use Rattle.std.proofs.lemmas.List.{reverse-append}
use Rattle.std.proofs.lemmas.List.Folds.{list_any-append}
use Rattle.db_format.specs.declared.value.Value.{Value}
use Rattle.page_list.specs.Pages.{Pages}
use Rattle.book_model.specs.Book.{Name, taken_by, next_of}
use Rattle.book_reads.specs.Reads.{is_named}
use Rattle.table_store.specs.Steps.{IsSchema}
use Rattle.table_store.specs.Made.{IsTakenIn, IsFreeIn}

-- ---- names that are taken

-- names that rows take, one row after the other
pub taken_more : (name : Name) (row : List Value) (rows : List (List Value)) → is_named (flat_map taken_by (row ∷ rows)) name ≡ (is_named (taken_by row) name || is_named (flat_map taken_by rows) name)
taken_more name row rows = list_any-append (str_eq_ignore_ascii_case name) (taken_by row) (flat_map taken_by rows)

pub taken_in_schema : (pages : Pages) (rowids : List ℤ) (rows : List (List Value)) (name : Name) → IsSchema pages rowids rows → is_named (flat_map taken_by rows) name ≡ true → IsTakenIn pages name
taken_in_schema pages rowids rows name schema taken =
    let T : List (List Value) → Type 0 = λ l. is_named (flat_map taken_by l) name ≡ true in record { rows = schema.items; has = schema.has; taken = subst T schema.rows_are taken }

pub free_in_schema : (pages : Pages) (rowids : List ℤ) (rows : List (List Value)) (name : Name) (entry : ℤ) → IsSchema pages rowids rows → is_named (flat_map taken_by rows) name ≡ false
    → entry ≡ next_of (reverse rowids) → IsFreeIn pages name entry
free_in_schema pages rowids rows name entry schema free is =
    let F : List (List Value) → Type 0 = λ l. is_named (flat_map taken_by l) name ≡ false in
    record { rows = schema.items; has = schema.has; free = subst F schema.rows_are free; entry_is = is ∙ ap (λ (l : List ℤ). next_of (reverse l)) schema.rowids_are }

-- ---- the last rowid

pub reversed : {X : Type 0} (front : List X) (x : X) → reverse (front ++ x ∷ []) ≡ x ∷ reverse front
reversed front x = reverse-append front (x ∷ [])
