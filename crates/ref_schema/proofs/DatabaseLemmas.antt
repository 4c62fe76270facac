-- A database is whole just where the plain program says so.
use Rattle.std.proofs.Common.{◌≡◌, ◌≢◌, inl, inr, ℕ, zero, suc, ◌≤◌, List, [], ◌∷◌, map, Option, Some, None, refl, sym, ap, subst, ◌∙◌, arith, Bool, true, false, IsTrue, ◌↔◌, Result, Ok, Err}
use Rattle.std.specs.Prelude.{IfSome, IfNone, IfOk, IfErr}
use Rattle.std.specs.List.{AllByRecursion, AllZip}
use Rattle.page_list.specs.Pages.{Pages}
use Rattle.page_list.specs.Freelist.{Trunk}
use Rattle.db_format.specs.Record.{OneRecord}
use Rattle.db_format.specs.Create.{OneCreate}
use Rattle.db_format.specs.declared.value.Value.{Value}
use Rattle.tree_model.specs.Tree.{Row, Tree, Leaf, Child, Right, rows_of, HasDepth}
use Rattle.tree_model.specs.Whole.{IsWholeTree, IsWholeFor, most_depth}
use Rattle.db_format.specs.Schema.{Table, IsTableOf, tables_in, NamesDiffer, IsSchemaRow, HasRootWithin}
use Rattle.tree_model.specs.Database.{HasRecords, IsWitness, IsWhole}
use Rattle.tree_model.specs.Laws.{OneTree}
use Rattle.tree_model.proofs.OneWitnessLemmas.{same_records, same_found}
use Rattle.ref_trees.specs.Gathered.{height, HasTree, HasNoTree, HasRows}
use Rattle.ref_trees.specs.Forest.{AreWholeFor}
use Rattle.ref_schema.specs.Steps.{AreRecords, IsSound, AreTables, HaveRecords}

-- a whole tree is not too high
height_at_most : (depth : ℕ) (tree : Tree) → HasDepth depth tree → height tree ≤ depth
height_at_most depth (Leaf page rows) deep = omega (arith, deep)
height_at_most zero (Child child key more) deep = absurd deep
height_at_most (suc depth) (Child child key more) deep = omega (arith, height_at_most depth child deep.0, height_at_most (suc depth) more deep.1)
height_at_most zero (Right page child) deep = absurd deep
height_at_most (suc depth) (Right page child) deep = omega (arith, height_at_most depth child deep)

pub tree_of : (pages : Pages) (root : ℕ) (tree : Tree) → IsWholeTree pages root tree → HasTree pages most_depth root tree
tree_of pages root tree whole = record {
  held = whole.held;
  rooted = whole.rooted;
  low = omega (arith, height_at_most whole.depth tree whole.level, whole.shallow);
}

same_tree : OneTree → (pages : Pages) (root : ℕ) (a b : Tree) → HasTree pages most_depth root a → HasTree pages most_depth root b → a ≡ b
same_tree one pages root a b ha hb = one pages a b ha.held hb.held (ha.rooted ∙ sym hb.rooted)

-- the laws by which they are
pub record Known : Type 0 where
  pub tree : OneTree
  pub record_law : OneRecord
  pub create : OneCreate

-- what was read agrees with a witness
pub first_tree : (pages : Pages) (w : IsWitness pages) → IsWholeTree pages 1 w.schema
first_tree pages w = w.is_whole.whole.each_tree.0

pub same_rows : Known → (pages : Pages) (w : IsWitness pages) (rows : List Row) → HasRows pages 1 rows → rows ≡ rows_of w.schema
same_rows known pages w rows has = has.rows_are ∙ ap rows_of (same_tree known.tree pages 1 has.tree w.schema has.has_tree (tree_of pages 1 w.schema (first_tree pages w)))

pub same_schema : Known → (pages : Pages) (w : IsWitness pages) (rows : List Row) (schema : List (List Value)) → HasRows pages 1 rows → AreRecords rows schema → schema ≡ w.rows
same_schema known pages w rows schema has are =
    let P : List Row → Type 0 = λ l. AreRecords l w.rows in
    same_records known.record_law rows schema w.rows are (subst P (sym (same_rows known pages w rows has)) w.is_whole.schema_rows)

pub same_tables : Known → (pages : Pages) (w : IsWitness pages) (schema : List (List Value)) (tables : List Table) → schema ≡ w.rows → AreTables pages.size schema schema tables → tables ≡ tables_in w.found
same_tables known pages w schema tables same are =
    let P : List (List Value) → Type 0 = λ l. AllZip (IsTableOf pages.size l) l w.found in
    are.tables_are ∙ ap tables_in (same_found known.create pages.size schema schema are.found w.found are.plain (subst P (sym same) w.is_whole.plain))

-- rows of tables
records_zip : OneTree → (pages : Pages) (tables : List Table) (trees : List Tree) → AllZip (IsWholeTree pages) (map (λ table. table.root) tables) trees → HaveRecords pages tables → AllZip HasRecords tables trees
records_zip one pages [] [] whole have = tt
records_zip one pages [] (t ∷ trees) whole have = absurd whole
records_zip one pages (table ∷ tables) [] whole have = absurd whole
records_zip one pages (table ∷ tables) (t ∷ trees) whole have =
    let P : Tree → Type 0 = λ tree. HasRecords table tree in
    (subst P (same_tree one pages table.root have.0.tree t have.0.has_tree (tree_of pages table.root t whole.0)) have.0.records, records_zip one pages tables trees whole.1 have.1)

zip_records : (pages : Pages) (tables : List Table) (trees : List Tree) → AllZip (IsWholeTree pages) (map (λ table. table.root) tables) trees → AllZip HasRecords tables trees → HaveRecords pages tables
zip_records pages [] trees whole all = tt
zip_records pages (table ∷ tables) [] whole all = absurd all
zip_records pages (table ∷ tables) (t ∷ trees) whole all = (record { tree = t; has_tree = tree_of pages table.root t whole.0; records = all.0 }, zip_records pages tables trees whole.1 all.1)

sound_both : (size : ℕ) (rows : List (List Value)) → AllByRecursion IsSchemaRow rows → AllByRecursion (HasRootWithin size) rows → AllByRecursion (IsSound size) rows
sound_both size [] a b = tt
sound_both size (row ∷ rows) a b = ((a.0, b.0), sound_both size rows a.1 b.1)

sound_rows : (size : ℕ) (rows : List (List Value)) → AllByRecursion (IsSound size) rows → AllByRecursion IsSchemaRow rows × AllByRecursion (HasRootWithin size) rows
sound_rows size [] a = (tt, tt)
sound_rows size (row ∷ rows) a = let rest = sound_rows size rows a.1 in ((a.0.0, rest.0), (a.0.1, rest.1))

-- a database that was found whole
pub found_whole : Known → (pages : Pages) (rows : List Row) (schema : List (List Value)) (tables : List Table) → HasRows pages 1 rows → AreRecords rows schema → AllByRecursion (IsSound pages.size) schema
    → AreTables pages.size schema schema tables → NamesDiffer tables → AreWholeFor pages (1 ∷ map (λ table. table.root) tables) → HaveRecords pages tables → IsWhole pages
found_whole known pages rows schema tables has are sound made differ whole have = inr (by whole.trees whole.trunks whole.whole)
  where
    by : (trees : List Tree) (trunks : List Trunk) → IsWholeFor pages (1 ∷ map (λ table. table.root) tables) trees trunks → IsWitness pages
    by [] trunks w = absurd w.each_tree
    by (tree ∷ trees) trunks w =
        let P : List Table → Type 0 = λ l. IsWholeFor pages (1 ∷ map (λ table. table.root) l) (tree ∷ trees) trunks in
        let Q : List Row → Type 0 = λ l. AreRecords l schema in
        let N : List Table → Type 0 = λ l. NamesDiffer l in
        let R : List Table → Type 0 = λ l. AllZip HasRecords l trees in
        let both = sound_rows pages.size schema sound in
        record {
          schema = tree;
          rows = schema;
          found = made.found;
          trees = trees;
          trunks = trunks;
          is_whole = record {
            whole = subst P made.tables_are w;
            schema_rows = subst Q (has.rows_are ∙ ap rows_of (same_tree known.tree pages 1 has.tree tree has.has_tree (tree_of pages 1 tree w.each_tree.0))) are;
            five = both.0;
            roots_within = both.1;
            plain = made.plain;
            once = subst N made.tables_are differ;
            records = subst R made.tables_are (records_zip known.tree pages tables trees w.each_tree.1 have);
          };
        }

-- and one that is not
pub no_tree : (pages : Pages) → pages.size ≢ 0 → HasNoTree pages most_depth 1 → ¬ (IsWhole pages)
no_tree pages some none (inl zero_is) = some zero_is
no_tree pages some none (inr w) = none w.schema (tree_of pages 1 w.schema (first_tree pages w))

pub no_records_in : Known → (pages : Pages) (rows : List Row) → pages.size ≢ 0 → HasRows pages 1 rows → ((records : List (List Value)) → ¬ (AreRecords rows records)) → ¬ (IsWhole pages)
no_records_in known pages rows some has none (inl zero_is) = some zero_is
no_records_in known pages rows some has none (inr w) = let P : List Row → Type 0 = λ l. AreRecords l w.rows in none w.rows (subst P (sym (same_rows known pages w rows has)) w.is_whole.schema_rows)

pub not_sound : Known → (pages : Pages) (rows : List Row) (schema : List (List Value)) → pages.size ≢ 0 → HasRows pages 1 rows → AreRecords rows schema → ¬ (AllByRecursion (IsSound pages.size) schema) → ¬ (IsWhole pages)
not_sound known pages rows schema some has are none (inl zero_is) = some zero_is
not_sound known pages rows schema some has are none (inr w) =
    let P : List (List Value) → Type 0 = λ l. AllByRecursion (IsSound pages.size) l in
    none (subst P (sym (same_schema known pages w rows schema has are)) (sound_both pages.size w.rows w.is_whole.five w.is_whole.roots_within))

pub same_name : Known → (pages : Pages) (rows : List Row) (schema : List (List Value)) (tables : List Table) → pages.size ≢ 0 → HasRows pages 1 rows → AreRecords rows schema → AreTables pages.size schema schema tables → ¬ (NamesDiffer tables) → ¬ (IsWhole pages)
same_name known pages rows schema tables some has are made none (inl zero_is) = some zero_is
same_name known pages rows schema tables some has are made none (inr w) =
    let P : List Table → Type 0 = λ l. NamesDiffer l in
    none (subst P (sym (same_tables known pages w schema tables (same_schema known pages w rows schema has are) made)) w.is_whole.once)

pub not_for_roots : Known → (pages : Pages) (rows : List Row) (schema : List (List Value)) (tables : List Table) → pages.size ≢ 0 → HasRows pages 1 rows → AreRecords rows schema → AreTables pages.size schema schema tables
    → ((trees : List Tree) (trunks : List Trunk) → ¬ (IsWholeFor pages (1 ∷ map (λ table. table.root) tables) trees trunks)) → ¬ (IsWhole pages)
not_for_roots known pages rows schema tables some has are made none (inl zero_is) = some zero_is
not_for_roots known pages rows schema tables some has are made none (inr w) =
    let P : List Table → Type 0 = λ l. IsWholeFor pages (1 ∷ map (λ table. table.root) l) (w.schema ∷ w.trees) w.trunks in
    none (w.schema ∷ w.trees) w.trunks (subst P (sym (same_tables known pages w schema tables (same_schema known pages w rows schema has are) made)) w.is_whole.whole)

pub no_rows_in : Known → (pages : Pages) (rows : List Row) (schema : List (List Value)) (tables : List Table) → pages.size ≢ 0 → HasRows pages 1 rows → AreRecords rows schema → AreTables pages.size schema schema tables → ¬ (HaveRecords pages tables) → ¬ (IsWhole pages)
no_rows_in known pages rows schema tables some has are made none (inl zero_is) = some zero_is
no_rows_in known pages rows schema tables some has are made none (inr w) =
    let P : List Table → Type 0 = λ l. HaveRecords pages l in
    none (subst P (sym (same_tables known pages w schema tables (same_schema known pages w rows schema has are) made)) (zip_records pages (tables_in w.found) w.trees w.is_whole.whole.each_tree.1 w.is_whole.records))

-- answers that are there, or not
pub none_of : {A P : Type 0} (o : Option A) → ((x : A) → o ≢ Some x) → IfNone o P → P
none_of None none p = p
none_of (Some x) none p = absurd (none x refl)

pub some_of : {A : Type 0} (P : A → Type 0) (o : Option A) (x : A) → o ≡ Some x → IfSome o P → P x
some_of P o x is p = let Q : Option _ → Type 0 = λ y. IfSome y P in subst Q is p

pub not_so : (b : Bool) (A : Type 0) → b ≡ false → IsTrue b ↔ A → ¬ A
not_so b A is_not test a = let yes_it_is = test.1 a in false_true (sym is_not ∙ yes_it_is)
  where
    false_true : ¬ (false ≡ true)
    false_true e = cc

pub is_so : (b : Bool) (A : Type 0) → b ≡ true → IsTrue b ↔ A → A
is_so b A is_yes test = test.0 is_yes

pub err_of : {A E : Type 0} (P : Type 0) (r : Result A E) (x : E) → r ≡ Err x → IfErr r (λ _. P) → P
err_of P r x is p = let Q : Result _ _ → Type 0 = λ y. IfErr y (λ _. P) in subst Q is p

pub ok_of : {A E : Type 0} (P : Type 0) (r : Result A E) → ((x : E) → r ≢ Err x) → IfOk r (λ _. P) → P
ok_of P (Ok a) none p = p
ok_of P (Err x) none p = absurd (none x refl)
