-- A whole database is so in one way.
use Rattle.std.proofs.Common.{◌≡◌, ℕ, pos, List, [], ◌∷◌, map, codes, Option, Some, None, refl, sym, ap, ap₂, subst, ◌∙◌}
use Rattle.std.specs.List.{AllZip}
use Rattle.page_list.specs.Pages.{Pages}
use Rattle.page_list.specs.Freelist.{OneFreelist}
use Rattle.db_format.specs.Record.{IsRecord, OneRecord}
use Rattle.db_format.specs.Create.{Spells, OneCreate}
use Rattle.db_format.specs.Schema.{Table, IsPlainRow, IsTableOf, tables_in}
use Rattle.db_format.specs.declared.value.Value.{Value}
use Rattle.db_format.specs.declared.value.Value.TheVariants.{Int, Text}
use Rattle.tree_model.specs.Tree.{Row, Tree, rows_of}
use Rattle.tree_model.specs.Whole.{IsWholeTree}
use Rattle.tree_model.specs.Laws.{OneTree, OneWitness}

-- the laws by which it is
pub record Known : Type 0 where
  pub tree : OneTree
  pub freelist : OneFreelist
  pub record_law : OneRecord
  pub create : OneCreate

-- rows are of one list of records
pub same_records : OneRecord → (rows : List Row) (a b : List (List Value)) → AllZip (λ row values. IsRecord row.payload values) rows a
    → AllZip (λ row values. IsRecord row.payload values) rows b → a ≡ b
same_records one [] [] [] p q = refl
same_records one [] (x ∷ a) b p q = absurd p
same_records one [] [] (y ∷ b) p q = absurd q
same_records one (row ∷ rows) [] b p q = absurd p
same_records one (row ∷ rows) (x ∷ a) [] p q = absurd q
same_records one (row ∷ rows) (x ∷ a) (y ∷ b) p q = ap₂ (λ (v : List Value) (l : List (List Value)). v ∷ l) (one row.payload x y p.0 q.0) (same_records one rows a b p.1 q.1)

-- a row of the schema makes one table
one_row : OneCreate → (size : ℕ) (schema : List (List Value)) (values : List Value) (a b : Table) → IsPlainRow size schema values a → IsPlainRow size schema values b → a ≡ b
one_row one size schema values a b p q =
    let same = parts a b p.sql q.sql (sym p.values_are ∙ q.values_are) in
    let P : List ℕ → Type 0 = λ text. Spells text b.create in
    table_is a b same.0 (one p.sql a.create b.create p.spelled (subst P (sym same.1) q.spelled))
  where
    parts : (a b : Table) (sql text : List ℕ) → Text (codes "table") ∷ Text a.create.name ∷ Text a.create.name ∷ Int (pos a.root) ∷ Text sql ∷ []
        ≡ Text (codes "table") ∷ Text b.create.name ∷ Text b.create.name ∷ Int (pos b.root) ∷ Text text ∷ [] → (a.root ≡ b.root) × (sql ≡ text)
    parts a b sql text e = (cc, cc)

    table_is : (a b : Table) → a.root ≡ b.root → a.create ≡ b.create → a ≡ b
    table_is a b r c = λ i. record { root = r i; create = c i }

pub same_found : OneCreate → (size : ℕ) (schema rows : List (List Value)) (a b : List (Option Table)) → AllZip (IsTableOf size schema) rows a
    → AllZip (IsTableOf size schema) rows b → a ≡ b
same_found one size schema [] [] [] p q = refl
same_found one size schema [] (x ∷ a) b p q = absurd p
same_found one size schema [] [] (y ∷ b) p q = absurd q
same_found one size schema (row ∷ rows) [] b p q = absurd p
same_found one size schema (row ∷ rows) (x ∷ a) [] p q = absurd q
same_found one size schema (row ∷ rows) (None ∷ a) (None ∷ b) p q = ap (λ (l : List (Option Table)). None ∷ l) (same_found one size schema rows a b p.1 q.1)
same_found one size schema (row ∷ rows) (None ∷ a) (Some y ∷ b) p q = absurd (p.0 y q.0)
same_found one size schema (row ∷ rows) (Some x ∷ a) (None ∷ b) p q = absurd (q.0 x p.0)
same_found one size schema (row ∷ rows) (Some x ∷ a) (Some y ∷ b) p q =
    ap₂ (λ (t : Table) (l : List (Option Table)). Some t ∷ l) (one_row one size schema row x y p.0 q.0) (same_found one size schema rows a b p.1 q.1)

-- roots have one list of trees
same_trees : OneTree → (pages : Pages) (roots : List ℕ) (a b : List Tree) → AllZip (IsWholeTree pages) roots a → AllZip (IsWholeTree pages) roots b → a ≡ b
same_trees one pages [] [] [] p q = refl
same_trees one pages [] (x ∷ a) b p q = absurd p
same_trees one pages [] [] (y ∷ b) p q = absurd q
same_trees one pages (root ∷ roots) [] b p q = absurd p
same_trees one pages (root ∷ roots) (x ∷ a) [] p q = absurd q
same_trees one pages (root ∷ roots) (x ∷ a) (y ∷ b) p q =
    ap₂ (λ (t : Tree) (l : List Tree). t ∷ l) (one pages x y p.0.held q.0.held (p.0.rooted ∙ sym q.0.rooted)) (same_trees one pages roots a b p.1 q.1)

pub one_witness : Known → OneWitness
one_witness known pages schema schema' rows rows' found found' trees trees' trunks trunks' a b =
    let schemas : schema ≡ schema' =
    known.tree pages schema schema' a.whole.each_tree.0.held b.whole.each_tree.0.held (a.whole.each_tree.0.rooted ∙ sym b.whole.each_tree.0.rooted) in
    let R : Tree → Type 0 = λ tree. AllZip (λ row values. IsRecord row.payload values) (rows_of tree) rows' in
    let same_rows : rows ≡ rows' = same_records known.record_law (rows_of schema) rows rows' a.schema_rows (subst R (sym schemas) b.schema_rows) in
    let F : List (List Value) → Type 0 = λ l. AllZip (IsTableOf pages.size l) l found' in
    let founds : found ≡ found' = same_found known.create pages.size rows rows found found' a.plain (subst F (sym same_rows) b.plain) in
    let T : List (Option Table) → Type 0 = λ l. AllZip (IsWholeTree pages) (map (λ table. table.root) (tables_in l)) trees' in (
      schemas,
      same_rows,
      founds,
      same_trees known.tree pages (map (λ table. table.root) (tables_in found)) trees trees' a.whole.each_tree.1 (subst T (sym founds) b.whole.each_tree.1),
      known.freelist pages trunks trunks' a.whole.freelist b.whole.freelist,
    )
