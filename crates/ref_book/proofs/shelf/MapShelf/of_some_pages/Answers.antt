use Rattle.std.proofs.Common.{◌≡◌, ◌⊎◌, ap, sym, subst, ◌∙◌, List, Option, length}
use Rattle.db_format.specs.Schema.{Table as Found, tables_in}
use Rattle.tree_model.specs.Tree.{Row as Stored}
use Rattle.book_model.specs.Book.{Name, Table}
use Rattle.ref_pages.specs.AsPages.{pages_of}
use Rattle.ref_trees.specs.Forest.{LacksTree, HasNoFreelist}
use Rattle.ref_schema.specs.Steps.{HaveRecords}
use Rattle.ref_schema.proofs.DatabaseLemmas.{Known, none_of, some_of}
use Rattle.ref_book.specs.Shelf.{book_of}
use Rattle.ref_book.specs.Loaded.{IsSchema, AreHeldBehind, AreNamed, roots_in, IsPut}
use Rattle.ref_book.proofs.Loaded.{schema_long, no_tables, no_names, all_held, whole_book}
use Rattle.ref_book.proofs.shelf.MapShelf.of_some_pages.Goals as goal

pub push_tables-requires : goal.push_tables-requires
push_tables-requires c =
    let pages = pages_of c.args.pages.now in
    let s = c.in-Some.schema in
    let schema = some_of (λ s. IsSchema pages s.rows.items s.records.items s.found.items) c.in_ok-schema.field-0 s c.in-Some.is c.in_ok-schema.ensures.found in
    ap length c.deref.ensures.value ∙ schema_long pages s.rows.items s.records.items s.found.items schema ∙ sym (ap length c.deref-2.ensures.value)

pub returns-then-not-branch-clause-none : goal.returns-then-not-branch-clause-none
returns-then-not-branch-clause-none c =
    let pages = pages_of c.args.pages.now in
    let known : Known = record { tree = c.one_tree.ensures; record_law = c.one_record.ensures; create = c.one_create.ensures } in
    let s = c.in-Some.schema in
    let schema = some_of (λ s. IsSchema pages s.rows.items s.records.items s.found.items) c.in_ok-schema.field-0 s c.in-Some.is c.in_ok-schema.ensures.found in
    let F : List (Option Found) → Type 0 = λ l. ¬ (HaveRecords pages (tables_in l)) in
    no_tables known pages s.rows.items s.records.items s.found.items c.requires schema (subst F c.deref-2.ensures.value (c.in_ok-push_tables.ensures.none c.if-not-branch.true))

pub returns-in_default-2-clause-none : goal.returns-in_default-2-clause-none
returns-in_default-2-clause-none c =
    let pages = pages_of c.args.pages.now in
    let known : Known = record { tree = c.one_tree.ensures; record_law = c.one_record.ensures; create = c.one_create.ensures } in
    let s = c.in-Some.schema in
    let schema = some_of (λ s. IsSchema pages s.rows.items s.records.items s.found.items) c.in_ok-schema.field-0 s c.in-Some.is c.in_ok-schema.ensures.found in
    let F : List (Option Found) → Type 0 = λ l. LacksTree pages (roots_in l) ⊎ HasNoFreelist pages in
    no_names known c.one_freelist.ensures pages s.rows.items s.records.items s.found.items c.requires schema
    (subst F c.deref-3.ensures.value (none_of c.in_ok-named.field-0 c.in_default-2.not-Some c.in_ok-named.ensures.none))

pub returns-clause-found : goal.returns-clause-found
returns-clause-found c =
    let pages = pages_of c.args.pages.now in
    let known : Known = record { tree = c.one_tree.ensures; record_law = c.one_record.ensures; create = c.one_create.ensures } in
    let s = c.in-Some.schema in
    let schema = some_of (λ s. IsSchema pages s.rows.items s.records.items s.found.items) c.in_ok-schema.field-0 s c.in-Some.is c.in_ok-schema.ensures.found in
    let listed = c.push_tables.new.all.items in
    let named = c.in-Some-2.named.items in
    let both : ◌≡◌ {A = List Stored × List (Option Found)} (c.deref.result.now, c.deref-2.result.now) (s.rows.items, s.found.items) = λ i. (c.deref.ensures.value i, c.deref-2.ensures.value i) in
    let behind = subst (λ (l : List Stored × List (Option Found)). AreHeldBehind pages l.0 l.1 c.new-listed.result.items listed) both (c.in_ok-push_tables.ensures.held c.if-not-branch.false) in
    let held = all_held pages s.rows.items s.found.items c.new-listed.result.items listed c.new-listed.ensures.items behind in
    let names = some_of (λ named. AreNamed pages (roots_in c.deref-3.result.now) named.items) c.in_ok-named.field-0 c.in-Some-2.named c.in-Some-2.is c.in_ok-named.ensures.found in
    let put = subst (λ (l : List (Name × Table)). IsPut pages s.rows.items s.records.items s.found.items l c.deref-5.result.now (book_of c.in_ok-shelf.shelf)) c.deref-4.ensures.value c.in_ok-shelf.ensures in
    whole_book known c.one_freelist.ensures pages s.rows.items s.records.items s.found.items listed named (book_of c.in_ok-shelf.shelf) c.requires schema held
    (subst (λ (l : List (Option Found)). AreNamed pages (roots_in l) named) c.deref-3.ensures.value names)
    (subst (λ (l : List _). IsPut pages s.rows.items s.records.items s.found.items listed l (book_of c.in_ok-shelf.shelf)) c.deref-5.ensures.value put)
