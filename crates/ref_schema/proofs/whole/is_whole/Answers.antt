use Rattle.std.proofs.Common.{◌≡◌, ◌≢◌, subst, ◌∙◌, ap, ℕ, List, ◌∷◌, map}
use Rattle.std.specs.List.{AllByRecursion}
use Rattle.db_format.specs.declared.value.Value.{Value}
use Rattle.page_list.specs.Freelist.{Trunk}
use Rattle.tree_model.specs.Tree.{Row, Tree}
use Rattle.tree_model.specs.Whole.{IsWholeFor}
use Rattle.db_format.specs.Schema.{Table, NamesDiffer}
use Rattle.ref_trees.specs.Gathered.{HasRows}
use Rattle.ref_trees.specs.Forest.{AreWholeFor}
use Rattle.ref_pages.specs.AsPages.{pages_of}
use Rattle.ref_schema.specs.Steps.{AreRecords, IsSound, AreTables, HaveRecords}
use Rattle.ref_schema.proofs.DatabaseLemmas.{Known, no_tree, not_sound, same_name, not_for_roots, no_rows_in, found_whole, none_of, some_of, not_so, is_so, err_of, ok_of}
use Rattle.ref_schema.proofs.whole.is_whole.Goals as goal

pub returns-in_default-clause-refused : goal.returns-in_default-clause-refused
returns-in_default-clause-refused c =
    no_tree (pages_of c.args.pages.now) (λ e. c.if-size-eq0.false (c.size-size.ensures.is ∙ e)) (none_of c.in_ok-rows.field-0 c.in_default.not-Some c.in_ok-rows.ensures.none)

pub returns-then-not-are_sound-clause-refused : goal.returns-then-not-are_sound-clause-refused
returns-then-not-are_sound-clause-refused c =
    let pages = pages_of c.args.pages.now in
    let known : Known = record { tree = c.one_tree.ensures; record_law = c.one_record.ensures; create = c.one_create.ensures } in
    let has = some_of (λ rows. HasRows pages 1 rows.items) c.in_ok-rows.field-0 c.in-Some.rows c.in-Some.is c.in_ok-rows.ensures.found in
    let read = some_of (λ records. AreRecords c.deref.result.now records.items) c.in_ok-schema.field-0 c.in-Some-2.schema c.in-Some-2.is c.in_ok-schema.ensures.found in
    let R : List Row → Type 0 = λ l. AreRecords l c.in-Some-2.schema.items in
    let are = subst R c.deref.ensures.value read in
    let some : pages.size ≢ 0 = λ e. c.if-size-eq0.false (c.size-size.ensures.is ∙ e) in
    let S : List (List Value) → Type 0 = λ l. ¬ (AllByRecursion (IsSound c.size-size.result) l) in
    let N : ℕ → Type 0 = λ n. ¬ (AllByRecursion (IsSound n) c.in-Some-2.schema.items) in
    not_sound known pages c.in-Some.rows.items c.in-Some-2.schema.items some has are
    (subst N c.size-size.ensures.is (subst S c.deref-2.ensures.value (not_so c.are_sound.result (AllByRecursion (IsSound c.size-size.result) c.deref-2.result.now) c.if-not-are_sound.true c.are_sound.ensures)))

pub returns-then-not-names_differ-clause-refused : goal.returns-then-not-names_differ-clause-refused
returns-then-not-names_differ-clause-refused c =
    let pages = pages_of c.args.pages.now in
    let known : Known = record { tree = c.one_tree.ensures; record_law = c.one_record.ensures; create = c.one_create.ensures } in
    let has = some_of (λ rows. HasRows pages 1 rows.items) c.in_ok-rows.field-0 c.in-Some.rows c.in-Some.is c.in_ok-rows.ensures.found in
    let read = some_of (λ records. AreRecords c.deref.result.now records.items) c.in_ok-schema.field-0 c.in-Some-2.schema c.in-Some-2.is c.in_ok-schema.ensures.found in
    let R : List Row → Type 0 = λ l. AreRecords l c.in-Some-2.schema.items in
    let are = subst R c.deref.ensures.value read in
    let some : pages.size ≢ 0 = λ e. c.if-size-eq0.false (c.size-size.ensures.is ∙ e) in
    let S : List (List Value) → Type 0 = λ l. ¬ (AllByRecursion (IsSound c.size-size.result) l) in
    let N : ℕ → Type 0 = λ n. ¬ (AllByRecursion (IsSound n) c.in-Some-2.schema.items) in
    let T : List (List Value) → Type 0 = λ l. AreTables c.size-size.result l l c.in_ok-tables.tables.items in
    let U : ℕ → Type 0 = λ n. AreTables n c.in-Some-2.schema.items c.in-Some-2.schema.items c.in_ok-tables.tables.items in
    let made = subst U c.size-size.ensures.is (subst T c.deref-3.ensures.value c.in_ok-tables.ensures) in
    let D : List Table → Type 0 = λ l. ¬ (NamesDiffer l) in
    same_name known pages c.in-Some.rows.items c.in-Some-2.schema.items c.in_ok-tables.tables.items some has are made
    (subst D c.deref-4.ensures.value (not_so c.names_differ.result (NamesDiffer c.deref-4.result.now) c.if-not-names_differ.true c.names_differ.ensures))

pub returns-in-Err-clause-refused : goal.returns-in-Err-clause-refused
returns-in-Err-clause-refused c =
    let pages = pages_of c.args.pages.now in
    let known : Known = record { tree = c.one_tree.ensures; record_law = c.one_record.ensures; create = c.one_create.ensures } in
    let has = some_of (λ rows. HasRows pages 1 rows.items) c.in_ok-rows.field-0 c.in-Some.rows c.in-Some.is c.in_ok-rows.ensures.found in
    let read = some_of (λ records. AreRecords c.deref.result.now records.items) c.in_ok-schema.field-0 c.in-Some-2.schema c.in-Some-2.is c.in_ok-schema.ensures.found in
    let R : List Row → Type 0 = λ l. AreRecords l c.in-Some-2.schema.items in
    let are = subst R c.deref.ensures.value read in
    let some : pages.size ≢ 0 = λ e. c.if-size-eq0.false (c.size-size.ensures.is ∙ e) in
    let S : List (List Value) → Type 0 = λ l. ¬ (AllByRecursion (IsSound c.size-size.result) l) in
    let N : ℕ → Type 0 = λ n. ¬ (AllByRecursion (IsSound n) c.in-Some-2.schema.items) in
    let T : List (List Value) → Type 0 = λ l. AreTables c.size-size.result l l c.in_ok-tables.tables.items in
    let U : ℕ → Type 0 = λ n. AreTables n c.in-Some-2.schema.items c.in-Some-2.schema.items c.in_ok-tables.tables.items in
    let made = subst U c.size-size.ensures.is (subst T c.deref-3.ensures.value c.in_ok-tables.ensures) in
    let roots : c.deref-6.result.now ≡ 1 ∷ map (λ table. table.root) c.in_ok-tables.tables.items =
    c.deref-6.ensures.value ∙ c.in_ok-roots.ensures ∙ ap (λ (l : List Table). 1 ∷ map (λ table. table.root) l) c.deref-5.ensures.value in
    let W : List ℕ → Type 0 = λ l. (trees : List Tree) (trunks : List Trunk) → ¬ (IsWholeFor pages l trees trunks) in
    not_for_roots known pages c.in-Some.rows.items c.in-Some-2.schema.items c.in_ok-tables.tables.items some has are made (subst W roots (err_of ((trees : List Tree) (trunks : List Trunk) → ¬ (IsWholeFor pages c.deref-6.result.now trees trunks)) c.in_ok-lacks.field-0 c.in-Err.lacks c.in-Err.is c.in_ok-lacks.ensures.refused))

pub returns-then-not-branch-clause-refused : goal.returns-then-not-branch-clause-refused
returns-then-not-branch-clause-refused c =
    let pages = pages_of c.args.pages.now in
    let known : Known = record { tree = c.one_tree.ensures; record_law = c.one_record.ensures; create = c.one_create.ensures } in
    let has = some_of (λ rows. HasRows pages 1 rows.items) c.in_ok-rows.field-0 c.in-Some.rows c.in-Some.is c.in_ok-rows.ensures.found in
    let read = some_of (λ records. AreRecords c.deref.result.now records.items) c.in_ok-schema.field-0 c.in-Some-2.schema c.in-Some-2.is c.in_ok-schema.ensures.found in
    let R : List Row → Type 0 = λ l. AreRecords l c.in-Some-2.schema.items in
    let are = subst R c.deref.ensures.value read in
    let some : pages.size ≢ 0 = λ e. c.if-size-eq0.false (c.size-size.ensures.is ∙ e) in
    let S : List (List Value) → Type 0 = λ l. ¬ (AllByRecursion (IsSound c.size-size.result) l) in
    let N : ℕ → Type 0 = λ n. ¬ (AllByRecursion (IsSound n) c.in-Some-2.schema.items) in
    let T : List (List Value) → Type 0 = λ l. AreTables c.size-size.result l l c.in_ok-tables.tables.items in
    let U : ℕ → Type 0 = λ n. AreTables n c.in-Some-2.schema.items c.in-Some-2.schema.items c.in_ok-tables.tables.items in
    let made = subst U c.size-size.ensures.is (subst T c.deref-3.ensures.value c.in_ok-tables.ensures) in
    let H : List Table → Type 0 = λ l. ¬ (HaveRecords pages l) in
    no_rows_in known pages c.in-Some.rows.items c.in-Some-2.schema.items c.in_ok-tables.tables.items some has are made
    (subst H c.deref-7.ensures.value (not_so c.in_ok-have_records.field-0 (HaveRecords pages c.deref-7.result.now) c.if-not-branch.true c.in_ok-have_records.ensures))

pub returns-clause-whole : goal.returns-clause-whole
returns-clause-whole c =
    let pages = pages_of c.args.pages.now in
    let known : Known = record { tree = c.one_tree.ensures; record_law = c.one_record.ensures; create = c.one_create.ensures } in
    let has = some_of (λ rows. HasRows pages 1 rows.items) c.in_ok-rows.field-0 c.in-Some.rows c.in-Some.is c.in_ok-rows.ensures.found in
    let read = some_of (λ records. AreRecords c.deref.result.now records.items) c.in_ok-schema.field-0 c.in-Some-2.schema c.in-Some-2.is c.in_ok-schema.ensures.found in
    let R : List Row → Type 0 = λ l. AreRecords l c.in-Some-2.schema.items in
    let are = subst R c.deref.ensures.value read in
    let some : pages.size ≢ 0 = λ e. c.if-size-eq0.false (c.size-size.ensures.is ∙ e) in
    let S : List (List Value) → Type 0 = λ l. AllByRecursion (IsSound c.size-size.result) l in
    let N : ℕ → Type 0 = λ n. AllByRecursion (IsSound n) c.in-Some-2.schema.items in
    let T : List (List Value) → Type 0 = λ l. AreTables c.size-size.result l l c.in_ok-tables.tables.items in
    let U : ℕ → Type 0 = λ n. AreTables n c.in-Some-2.schema.items c.in-Some-2.schema.items c.in_ok-tables.tables.items in
    let made = subst U c.size-size.ensures.is (subst T c.deref-3.ensures.value c.in_ok-tables.ensures) in
    let roots : c.deref-6.result.now ≡ 1 ∷ map (λ table. table.root) c.in_ok-tables.tables.items =
    c.deref-6.ensures.value ∙ c.in_ok-roots.ensures ∙ ap (λ (l : List Table). 1 ∷ map (λ table. table.root) l) c.deref-5.ensures.value in
    let D : List Table → Type 0 = λ l. NamesDiffer l in
    let H : List Table → Type 0 = λ l. HaveRecords pages l in
    let W : List ℕ → Type 0 = λ l. AreWholeFor pages l in
    found_whole known pages c.in-Some.rows.items c.in-Some-2.schema.items c.in_ok-tables.tables.items has are
    (subst N c.size-size.ensures.is (subst S c.deref-2.ensures.value (is_so c.are_sound.result (AllByRecursion (IsSound c.size-size.result) c.deref-2.result.now) c.if-not-are_sound.false c.are_sound.ensures)))
    made
    (subst D c.deref-4.ensures.value (is_so c.names_differ.result (NamesDiffer c.deref-4.result.now) c.if-not-names_differ.false c.names_differ.ensures))
    (subst W roots (ok_of (AreWholeFor pages c.deref-6.result.now) c.in_ok-lacks.field-0 c.in_default-3.not-Err c.in_ok-lacks.ensures.whole))
    (subst H c.deref-7.ensures.value (is_so c.in_ok-have_records.field-0 (HaveRecords pages c.deref-7.result.now) c.if-not-branch.false c.in_ok-have_records.ensures))
