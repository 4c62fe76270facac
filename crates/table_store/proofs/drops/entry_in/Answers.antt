use Rattle.std.proofs.Common.{List, sym, subst}
use Rattle.std.specs.List.{AllByRecursion}
use Rattle.db_format.specs.declared.value.Value.{Value}
use Rattle.table_store.specs.Steps.{NamesTable}
use Rattle.table_store.proofs.NameLemmas.{finds_nothing, finds_foreign}
use Rattle.table_store.proofs.DropEntryLemmas.{no_entry}
use Rattle.table_store.proofs.drops.entry_in.Goals as goal

pub returns-then-none_named-clause-refused : goal.returns-then-none_named-clause-refused
returns-then-none_named-clause-refused c =
    let rows = c.args.schema.now.rows.items in
    let none = no_entry c.args.pages c.args.schema.now.rowids.items rows c.args.name.now c.in_ok-entry.field-0 c.in_default.not-Some c.in_ok-entry.ensures in
    let U : List (List Value) → Type 0 = λ l. AllByRecursion (λ row. ¬ (NamesTable row c.args.name.now)) l in
    finds_nothing c.args.pages rows none.plain c.args.name.now none.are none.none (subst U c.deref.ensures.value (c.none_named.ensures.0 c.if-none_named.true))

pub returns-clause-refused : goal.returns-clause-refused
returns-clause-refused c =
    let rows = c.args.schema.now.rows.items in
    let none = no_entry c.args.pages c.args.schema.now.rowids.items rows c.args.name.now c.in_ok-entry.field-0 c.in_default.not-Some c.in_ok-entry.ensures in
    let U : List (List Value) → Type 0 = λ l. AllByRecursion (λ row. ¬ (NamesTable row c.args.name.now)) l in
    finds_foreign c.args.pages rows none.plain c.args.name.now none.are none.none
    (λ all. let is = c.none_named.ensures.1 (subst U (sym c.deref.ensures.value) all) in let is_not = c.if-none_named.false in cc)
