use Rattle.std.proofs.Common.{rules, ℕ, List, ◌∙◌, ap, subst, length, int_cmp}
use Rattle.std.proofs.lemmas.Int.{to_z-of_z}
use Rattle.std.specs.Prelude.{FitsSigned}
use Rattle.std.specs.Int.{w64}
use Rattle.std.specs.FinMap.{from_entries, entries}
use Rattle.db_format.specs.declared.create.Create.{Create}
use Rattle.db_format.specs.declared.value.Value.{Value}
use Rattle.tree_model.specs.Tree.{Row as Stored}
use Rattle.ref_pages.specs.AsPages.{pages_of}
use Rattle.ref_trees.specs.Gathered.{HasRows}
use Rattle.ref_schema.specs.Steps.{AreRecords}
use Rattle.ref_schema.proofs.DatabaseLemmas.{none_of, some_of}
use Rattle.book_model.specs.Pages.{entries_of}
use Rattle.ref_book.proofs.Loaded.{no_contents, entries_rise, is_held}
use Rattle.ref_book.proofs.load.table_at.Goals as goal

pub returns-in_default-2-clause-none : goal.returns-in_default-2-clause-none
returns-in_default-2-clause-none c =
    let pages = pages_of c.args.pages.now in
    let has = some_of (λ rows. HasRows pages c.root.result rows.items) c.in_ok-rows.field-0 c.in-Some.rows c.in-Some.is c.in_ok-rows.ensures.found in
    let none = none_of c.in_ok-contents.field-0 c.in_default-2.not-Some c.in_ok-contents.ensures.none in
    no_contents c.one_tree.ensures pages c.args.table.now c.in-Some.rows.items (subst (λ (n : ℕ). HasRows pages n c.in-Some.rows.items) c.root.ensures has)
    (subst (λ (l : List Stored). (records : List (List Value)) → ¬ (AreRecords l records)) c.deref.ensures.value none)

pub of_rows-requires : goal.of_rows-requires
of_rows-requires c = entries_rise int_cmp (from_entries (entries_of (length c.as_slice.result.now) c.deref-2.result.now c.deref-3.result.now)) c.in_ok-rows-2.rows.items c.in_ok-rows-2.ensures

pub returns-clause-held : goal.returns-clause-held
returns-clause-held c =
    let fits : FitsSigned w64 c.rowid.result = search rules in
    let pages = pages_of c.args.pages.now in
    let has = some_of (λ rows. HasRows pages c.root.result rows.items) c.in_ok-rows.field-0 c.in-Some.rows c.in-Some.is c.in_ok-rows.ensures.found in
    let are = some_of (λ records. AreRecords c.deref.result.now records.items) c.in_ok-contents.field-0 c.in-Some-2.contents c.in-Some-2.is c.in_ok-contents.ensures.found in
    let wide = c.in_ok-columns.ensures ∙ ap (λ (create : Create). create.columns) c.create-create.ensures in
    is_held pages c.args.entry.now c.args.table.now c.in-Some.rows.items c.in-Some-2.contents.items c.in_ok-name.name c.in_ok-columns.columns (length c.as_slice.result.now) c.rowid.result
    c.in_ok-rows-2.rows.items c.of_rows.result (subst (λ (n : ℕ). HasRows pages n c.in-Some.rows.items) c.root.ensures has)
    (subst (λ (l : List Stored). AreRecords l c.in-Some-2.contents.items) c.deref.ensures.value are)
    (c.in_ok-name.ensures ∙ ap (λ (create : Create). create.name) c.create-create.ensures) wide (ap length (c.as_slice.ensures ∙ wide)) c.rowid.ensures
    (c.in_ok-rows-2.ensures ∙ (λ i. entries (from_entries {R = int_cmp} (entries_of (length c.as_slice.result.now) (c.deref-2.ensures.value i) (c.deref-3.ensures.value i))))) (simp to_z-of_z at c.of_rows.ensures)
