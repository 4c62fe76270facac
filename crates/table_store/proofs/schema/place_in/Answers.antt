use Rattle.std.proofs.Common.{◌≡◌, subst, Option, rules}
use Rattle.std.specs.Prelude.{IfSome, None}
use Rattle.db_format.specs.Plain.{ArePlainTables}
use Rattle.book_reads.specs.Reads.{plain_named}
use Rattle.table_store.specs.declared.schema.Place.{Place}
use Rattle.table_store.specs.Steps.{IsPlaceOf}
use Rattle.table_store.proofs.NameLemmas.{some_pages, finds_in, finds_nothing, finds_foreign}
use Rattle.table_store.proofs.schema.place_in.Goals as goal

pub returns-in-Some-clause-some : goal.returns-in-Some-clause-some
returns-in-Some-clause-some c =
    let plain = c.as_slice.result.now in
    let are : ArePlainTables c.args.pages c.args.rows.now plain = search rules in
    let P : Option Place → Type 0 = λ found. IfSome found (IsPlaceOf plain c.args.name.now) in
    some_pages c.args.pages c.args.rows.now plain c.args.name.now c.in-Some.place are (subst P c.in-Some.is c.place_of.ensures.some)

pub returns-in-Some-clause-found : goal.returns-in-Some-clause-found
returns-in-Some-clause-found c =
    let plain = c.as_slice.result.now in
    let are : ArePlainTables c.args.pages c.args.rows.now plain = search rules in
    let P : Option Place → Type 0 = λ found. IfSome found (IsPlaceOf plain c.args.name.now) in
    finds_in c.args.pages c.args.rows.now plain c.args.name.now c.in-Some.place are (subst P c.in-Some.is c.place_of.ensures.some)

pub returns-then-none_named-clause-refused : goal.returns-then-none_named-clause-refused
returns-then-none_named-clause-refused c =
    let plain = c.as_slice.result.now in
    let are : ArePlainTables c.args.pages c.args.rows.now plain = search rules in
    let none : plain_named plain c.args.name.now ≡ None = search rules in
    finds_nothing c.args.pages c.args.rows.now plain c.args.name.now are none (c.none_named.ensures.0 c.if-none_named.true)

pub returns-clause-refused : goal.returns-clause-refused
returns-clause-refused c =
    let plain = c.as_slice.result.now in
    let are : ArePlainTables c.args.pages c.args.rows.now plain = search rules in
    let none : plain_named plain c.args.name.now ≡ None = search rules in
    finds_foreign c.args.pages c.args.rows.now plain c.args.name.now are none
    (λ all. let is = c.none_named.ensures.1 all in let is_not = c.if-none_named.false in cc)
