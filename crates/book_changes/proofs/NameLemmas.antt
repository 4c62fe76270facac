-- The plain tables of a book, by the rows of the schema and by name.
use Rattle.std.proofs.Common.{◌≡◌, ℕ, zero, suc, ◌<◌, Bool, true, false, cond, T, ℤ, pos, List, [], ◌∷◌, length, get_or, Option, Some, None, is_some, refl, sym, ap, ap₂, subst, ◌∙◌, arith}
use Rattle.std.proofs.lemmas.Cmp.{nat_list_cmp_total}
use Rattle.std.specs.List.{AllZip, Contains}
use Rattle.std.specs.Ordering.{nat_cmp, eq_by_cmp}
use Rattle.std.specs.Cmp.Lexicographic.{slice_cmp}
use Rattle.std.specs.FinMap as map
use Rattle.std.specs.FinMap.{nat_cmp-IsAntisymmetric, slice_cmp-IsAntisymmetric, get-from_entries}
use Rattle.std.specs.FinMap.Entries.{find}
use Rattle.db_format.specs.Create.{OneCreate, Spells}
use Rattle.db_format.specs.Schema.{Table as Found, IsPlainRow, IsTableOf, tables_in}
use Rattle.db_format.specs.declared.create.Create.{Create}
use Rattle.db_format.specs.declared.value.Value.{Value}
use Rattle.db_format.specs.declared.value.Value.TheVariants.{Int, Text}
use Rattle.tree_model.specs.Tree.{Row as Stored, Tree, rows_of}
use Rattle.book_model.specs.Book.{Name, Table}
use Rattle.book_model.specs.Pages.{AreTables}
use Rattle.book_changes.specs.Names.{TablesAreFound}
use Rattle.book_changes.proofs.RowLemmas.{tied_is}
use Rattle.book_changes.proofs.TableLemmas.{table_at as place_of, map_has}
use Rattle.book_changes.proofs.ChangeLemmas.{key_at, table_has}

-- ---- a row makes one table at most

abbrev sql_in : List Value → List ℕ
sql_in (kind ∷ name ∷ table ∷ root ∷ Text sql ∷ more) = sql
sql_in _ = []

abbrev root_in : List Value → ℤ
root_in (kind ∷ name ∷ table ∷ Int root ∷ more) = root
root_in _ = pos 0

abbrev table_with : ℕ → Create → Found
table_with root create = record { root = root; create = create }

same_table : OneCreate → (size : ℕ) (schema : List (List Value)) (values : List Value) (a b : Found) → IsPlainRow size schema values a → IsPlainRow size schema values b → a ≡ b
same_table one size schema values a b first second =
    let same = sym first.values_are ∙ second.values_are in
    let sql : first.sql ≡ second.sql = ap sql_in same in
    let root : pos a.root ≡ pos b.root = ap root_in same in
    let create : a.create ≡ b.create = one second.sql a.create b.create (subst (λ s. Spells s a.create) sql first.spelled) second.spelled in
    ap₂ table_with (grind (arith, root)) create

later : {X : Type 0} (x y : X) (l : List X) → Contains l x → Contains (y ∷ l) x
later x y l has = (suc has.0, omega (arith, has.1), has.2)

row_found : OneCreate → (size : ℕ) (schema rows : List (List Value)) (found : List (Option Found)) (values : List Value) (table : Found) → AllZip (IsTableOf size schema) rows found
    → (k : ℕ) → k < length rows → get_or rows k values ≡ values → IsPlainRow size schema values table → Contains (tables_in found) table
row_found one size schema [] found values table all k within is plain = absurd (omega (arith, within))
row_found one size schema (row ∷ rows) [] values table all k within is plain = absurd all
row_found one size schema (row ∷ rows) (None ∷ found) values table all zero within is plain = absurd (all.0 table (subst (λ v. IsPlainRow size schema v table) (sym is) plain))
row_found one size schema (row ∷ rows) (Some f ∷ found) values table all zero within is plain =
    (0, omega arith, same_table one size schema values f table (subst (λ v. IsPlainRow size schema v f) is all.0) plain)
row_found one size schema (row ∷ rows) (None ∷ found) values table all (suc k) within is plain = row_found one size schema rows found values table all.1 k (omega (arith, within)) is plain
row_found one size schema (row ∷ rows) (Some f ∷ found) values table all (suc k) within is plain =
    later table f (tables_in found) (row_found one size schema rows found values table all.1 k (omega (arith, within)) is plain)

-- ---- a table of a name is one of them

abbrev Named : List Found → Name → Type 0
Named found name = (table : Found) × Contains found table × (table.create.name ≡ name)

named_later : (f : Found) (found : List Found) (name : Name) → Named found name → Named (f ∷ found) name
named_later f found name has = (has.0, later has.0 f found has.1, has.2)

name_found : (name : Name) (entries : List Stored) (found : List (Option Found)) (trees : List Tree) (tables : List (Name × Table)) → AreTables entries found trees tables
    → is_some (find (slice_cmp nat_cmp) name tables) ≡ true → Named (tables_in found) name
name_found name [] [] [] [] are is = absurd (subst T (sym is) tt)
name_found name [] [] [] (x ∷ tables) are is = absurd are
name_found name [] [] (tree ∷ trees) tables are is = absurd are
name_found name [] (f ∷ found) trees tables are is = absurd are
name_found name (entry ∷ entries) [] trees tables are is = absurd are
name_found name (entry ∷ entries) (None ∷ found) trees tables are is = name_found name entries found trees tables are is
name_found name (entry ∷ entries) (Some f ∷ found) [] tables are is = absurd are
name_found name (entry ∷ entries) (Some f ∷ found) (tree ∷ trees) [] are is = absurd are
name_found name (entry ∷ entries) (Some f ∷ found) (tree ∷ trees) (x ∷ tables) are is = by (eq_by_cmp (slice_cmp nat_cmp) name x.0) refl (name_found name entries found trees tables are.1) is
  where
    by : (b : Bool) → eq_by_cmp (slice_cmp nat_cmp) name x.0 ≡ b → (is_some (find (slice_cmp nat_cmp) name tables) ≡ true → Named (tables_in found) name)
        → is_some (cond b (Some x.1) (find (slice_cmp nat_cmp) name tables)) ≡ true → Named (f ∷ tables_in found) name
    by true same more is = (f, (0, omega arith, refl), sym (tied_is (slice_cmp nat_cmp) (slice_cmp-IsAntisymmetric nat_cmp-IsAntisymmetric) name x.0 same ∙ are.0.named))
    by false other more is = named_later f (tables_in found) name (more is)

pub tables_are_found : OneCreate → TablesAreFound
tables_are_found one = record {
  by_row = λ pages book is values table among plain. row_found one pages.size is.rows is.rows is.found values table is.whole.plain among.0 among.1 among.2 plain;
  by_name = λ pages book is name plain.
      name_found name (rows_of is.schema) is.found is.trees is.tables is.each
      (ap is_some (sym (get-from_entries nat_list_cmp_total is.tables name)) ∙ ap (λ m. is_some (map.get m name)) (sym is.tables_are) ∙ plain);
  there = λ pages book is table among.
      let at = place_of (rows_of is.schema) is.found is.trees is.tables table is.each among.0 among.1 among.2 in (
        ap (λ m. is_some (map.get m table.create.name)) (is.tables_are ∙ ap (λ (l : List (Name × Table)). map.from_entries {R = slice_cmp nat_cmp} l) at.tables_are)
            ∙ ap is_some (map_has (slice_cmp nat_cmp) nat_list_cmp_total (slice_cmp-IsAntisymmetric nat_cmp-IsAntisymmetric) table.create.name at.table at.b at.b' (key_at pages book is table at).0),
        ap (λ t. t.columns) (table_has pages book is table at) ∙ at.is.columns,
      );
}
