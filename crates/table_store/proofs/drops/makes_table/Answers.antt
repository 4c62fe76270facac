use Rattle.std.proofs.Common.{false, Option, subst, sym, ◌∙◌}
use Rattle.db_format.specs.Plain.{MakesPlain}
use Rattle.db_format.specs.declared.plain.PlainTable.{PlainTable}
use Rattle.table_store.proofs.DropEntryLemmas.{makes_at, makes_none, makes_some}
use Rattle.table_store.proofs.drops.makes_table.Goals as goal

pub returns-in-Some : goal.returns-in-Some
returns-in-Some c =
    let pages = c.args.pages in
    let rows = c.args.rows.now in
    let name = c.args.name.now in
    let shown = c.as_slice.result.now in
    let P : Option PlainTable → Type 0 = MakesPlain pages rows shown in
    makes_at pages rows c.index-rows-place.result shown name c.args.place c.is_same.result c.index-rows-place.is c.as_slice.ensures
    (makes_some pages rows shown name c.in-Some.table c.is_same.result (subst P c.in-Some.is c.in_ok-found.ensures)
    (λ yes. sym c.as_slice-in-Some.ensures ∙ c.is_same.ensures.0 yes) (λ same. c.is_same.ensures.1 (c.as_slice-in-Some.ensures ∙ same)))

pub returns-in-None : goal.returns-in-None
returns-in-None c =
    let pages = c.args.pages in
    let rows = c.args.rows.now in
    let name = c.args.name.now in
    let shown = c.as_slice.result.now in
    let P : Option PlainTable → Type 0 = MakesPlain pages rows shown in
    makes_at pages rows c.index-rows-place.result shown name c.args.place false c.index-rows-place.is c.as_slice.ensures
    (makes_none pages rows shown name (subst P c.in-None.is c.in_ok-found.ensures))
