-- A row of a plain table more, or less, in a schema.
use Rattle.std.proofs.Common.{◌≡◌, inl, inr, ℕ, suc, ℤ, ◌<ℤ◌, int_le, if◌then◌else◌, List, [], ◌∷◌, ◌++◌, length, map, slice_index, codes, Option, Some, None, refl, ap, subst, ◌∙◌, arith}
use Rattle.std.specs.List.{AllByRecursion, AllZip}
use Rattle.db_format.specs.Record.{IsRecord}
use Rattle.db_format.specs.Schema.{Table as Found, IsOn, IsPlainRow, IsTableOf}
use Rattle.db_format.specs.declared.value.Value.{Value}
use Rattle.db_format.specs.declared.value.Value.TheVariants.{Text}
use Rattle.tree_model.specs.Tree.{Row as Stored, Tree, rowid}
use Rattle.tree_model.specs.Laws.{Rises, shown}
use Rattle.tree_model.proofs.IntLemmas.{le_is, not_le_is, lt_trans_ℤ}
use Rattle.book_model.specs.Book.{Name, Table}
use Rattle.book_model.specs.Pages.{AreTables, table_named, foreign_in}
use Rattle.tree_removed.specs.Keeps.{without_shown}
use Rattle.book_changes.proofs.RowLemmas.{Shown}
use Rattle.book_changes.proofs.TableLemmas.{all_append, all_at}

-- ---- lists

abbrev first_of : {A : Type 0} → A → List A → A
first_of x [] = x
first_of x (y ∷ ys) = y

abbrev rest_of : {A : Type 0} → List A → List A
rest_of [] = []
rest_of (x ∷ xs) = xs

-- what stands beside the parts of a list
pub record ZipSplit {A B : Type 0} (R : A → B → Type 0) (xs xs' : List A) (ys : List B) : Type 0 where
  pub front : List B
  pub back : List B
  pub is : ys ≡ front ++ back
  pub before : AllZip R xs front
  pub behind : AllZip R xs' back
  pub long : length front ≡ length xs

pub zip_split : {A B : Type 0} (R : A → B → Type 0) (xs xs' : List A) (ys : List B) → AllZip R (xs ++ xs') ys → ZipSplit R xs xs' ys
zip_split R [] xs' ys all = record { front = []; back = ys; is = refl; before = tt; behind = all; long = refl }
zip_split R (x ∷ xs) xs' [] all = absurd all
zip_split {A} {B} R (x ∷ xs) xs' (y ∷ ys) all =
    let rest = zip_split R xs xs' ys all.1 in
    record { front = y ∷ rest.front; back = rest.back; is = ap (λ (l : List B). y ∷ l) rest.is; before = (all.0, rest.before); behind = rest.behind; long = ap suc rest.long }

-- ---- rows that show the same

pub same_records : (e e' : List Stored) (rows : List (List Value)) → map shown e ≡ map shown e' → AllZip (λ row values. IsRecord row.payload values) e rows
    → AllZip (λ row values. IsRecord row.payload values) e' rows
same_records [] [] rows same all = all
same_records [] (x ∷ e') rows same all = absurd (omega (arith, ap (λ (l : Shown). length l) same))
same_records (x ∷ e) [] rows same all = absurd (omega (arith, ap (λ (l : Shown). length l) same))
same_records (x ∷ e) (y ∷ e') [] same all = all
same_records (x ∷ e) (y ∷ e') (values ∷ rows) same all =
    (subst (λ (p : List ℕ). IsRecord p values) (ap (λ (l : Shown). (first_of (shown x) l).1) same) all.0, same_records e e' rows (ap (λ (l : Shown). rest_of l) same) all.1)

pub same_tables : (e e' : List Stored) (f : List (Option Found)) (t : List Tree) (b : List (Name × Table)) → map shown e ≡ map shown e' → AreTables e f t b → AreTables e' f t b
same_tables [] [] f t b same are = are
same_tables [] (y ∷ e') f t b same are = absurd (omega (arith, ap (λ (l : Shown). length l) same))
same_tables (x ∷ e) [] f t b same are = absurd (omega (arith, ap (λ (l : Shown). length l) same))
same_tables (x ∷ e) (y ∷ e') [] t b same are = are
same_tables (x ∷ e) (y ∷ e') (None ∷ f) t b same are = same_tables e e' f t b (ap (λ (l : Shown). rest_of l) same) are
same_tables (x ∷ e) (y ∷ e') (Some g ∷ f) [] b same are = are
same_tables (x ∷ e) (y ∷ e') (Some g ∷ f) (tree ∷ t) [] same are = are
same_tables (x ∷ e) (y ∷ e') (Some g ∷ f) (tree ∷ t) ((name, table) ∷ b) same are = (
  record {
    named = are.0.named;
    columns = are.0.columns;
    entry_is = are.0.entry_is ∙ ap (λ (l : Shown). (first_of (shown x) l).0) same;
    rows = are.0.rows;
  },
  same_tables e e' f t b (ap (λ (l : Shown). rest_of l) same) are.1,
)

-- a row of rising ones is taken out where it stands
pub shown_without : (last : ℤ) (e e' : List Stored) (entry : Stored) → Rises last (e ++ entry ∷ e') → (last <ℤ rowid entry) × (without_shown (rowid entry) (map shown (e ++ entry ∷ e')) ≡ map shown (e ++ e'))
shown_without last [] e' entry rise =
    (rise.0, ap (λ b. if b then (if b then map shown e' else shown entry ∷ map shown e') else shown entry ∷ without_shown (rowid entry) (map shown e')) (le_is (rowid entry) (rowid entry) (grind arith)))
shown_without last (x ∷ e) e' entry rise =
    let rest = shown_without (rowid x) e e' entry rise.1 in (
      lt_trans_ℤ last (rowid x) (rowid entry) rise.0 rest.0,
      ap (λ b. if b then (if int_le (rowid x) (rowid entry) then map shown (e ++ entry ∷ e') else shown x ∷ map shown (e ++ entry ∷ e')) else shown x ∷ without_shown (rowid entry) (map shown (e ++ entry ∷ e')))
          (not_le_is (rowid entry) (rowid x) rest.0) ∙ ap (λ (l : Shown). shown x ∷ l) rest.1,
    )

-- ---- a row that is of a table is on none

abbrev kind_of : List Value → List ℕ
kind_of (Text kind ∷ more) = kind
kind_of _ = []

pub not_on : (more : List Value) (name : List ℕ) → ¬ (IsOn (Text (codes "table") ∷ more) name)
not_on more name on =
    let kind : codes "table" ≡ on.kind = ap kind_of on.values_are in
    elim on.is_kind [
      | inl index ↦ absurd (omega (arith, ap (λ (l : List ℕ). slice_index l 0) (kind ∙ index)))
      | inr trigger ↦ absurd (omega (arith, ap (λ (l : List ℕ). slice_index l 1) (kind ∙ trigger)))
    ]

-- the rows that are on a table are the same
abbrev pub SameOn : List (List Value) → List (List Value) → Type 0
SameOn schema schema' = (name : List ℕ) → AllByRecursion (λ other. ¬ (IsOn other name)) schema → AllByRecursion (λ other. ¬ (IsOn other name)) schema'

pub on_without : (r r' : List (List Value)) (values : List Value) → SameOn (r ++ values ∷ r') (r ++ r')
on_without r r' values name all =
    let parts = all_at (λ other. ¬ (IsOn other name)) r (values ∷ r') all in
    all_append (λ other. ¬ (IsOn other name)) r r' parts.0 parts.1.1

pub on_with : (r r' : List (List Value)) (more : List Value) → SameOn (r ++ r') (r ++ (Text (codes "table") ∷ more) ∷ r')
on_with r r' more name all =
    let parts = all_at (λ other. ¬ (IsOn other name)) r r' all in
    all_append (λ other. ¬ (IsOn other name)) r ((Text (codes "table") ∷ more) ∷ r') parts.0 (not_on more name, parts.1)

plain_over : (size : ℕ) (schema schema' : List (List Value)) (values : List Value) (table : Found) → SameOn schema schema' → IsPlainRow size schema values table → IsPlainRow size schema' values table
plain_over size schema schema' values table same is = record {
  sql = is.sql;
  values_are = is.values_are;
  least = is.least;
  most = is.most;
  spelled = is.spelled;
  alone = same table.create.name is.alone;
}

row_over : (size : ℕ) (schema schema' : List (List Value)) (values : List Value) (found : Option Found) → SameOn schema schema' → SameOn schema' schema
    → IsTableOf size schema values found → IsTableOf size schema' values found
row_over size schema schema' values (Some table) there back is = plain_over size schema schema' values table there is
row_over size schema schema' values None there back none = λ table plain. none table (plain_over size schema' schema values table back plain)

pub rows_over : (size : ℕ) (schema schema' rows : List (List Value)) (found : List (Option Found)) → SameOn schema schema' → SameOn schema' schema
    → AllZip (IsTableOf size schema) rows found → AllZip (IsTableOf size schema') rows found
rows_over size schema schema' [] [] there back all = tt
rows_over size schema schema' [] (f ∷ found) there back all = all
rows_over size schema schema' (values ∷ rows) [] there back all = all
rows_over size schema schema' (values ∷ rows) (f ∷ found) there back all = (row_over size schema schema' values f there back all.0, rows_over size schema schema' rows found there back all.1)

-- ---- the names of the foreign ones

pub foreign_without : (r r' : List (List Value)) (values : List Value) (f f' : List (Option Found)) (one : Found) → length f ≡ length r
    → foreign_in (r ++ values ∷ r') (f ++ Some one ∷ f') ≡ foreign_in (r ++ r') (f ++ f')
foreign_without [] r' values [] f' one long = refl
foreign_without [] r' values (g ∷ f) f' one long = absurd (omega (arith, long))
foreign_without (x ∷ r) r' values [] f' one long = absurd (omega (arith, long))
foreign_without (x ∷ r) r' values (None ∷ f) f' one long = ap (λ (l : List Name). table_named x ++ l) (foreign_without r r' values f f' one (omega (arith, long)))
foreign_without (x ∷ r) r' values (Some g ∷ f) f' one long = foreign_without r r' values f f' one (omega (arith, long))
