use Rattle.std.proofs.Common.{refl, subst, Option}
use Rattle.db_format.specs.Plain.{MakesPlain}
use Rattle.db_format.specs.declared.plain.PlainTable.{PlainTable}
use Rattle.ref_schema.proofs.TableLemmas.{made_some, made_none}
use Rattle.ref_schema.proofs.tables.table_of.Goals as goal

pub returns-in-Some : goal.returns-in-Some
returns-in-Some c =
    let P : Option PlainTable → Type 0 = λ found. MakesPlain c.args.size c.args.schema.now c.args.values.now found in
    made_some c.args.size c.args.schema.now c.args.values.now c.in-Some.field-0 c.in-Some.field-0.root c.in-Some.field-0.create (subst P c.in-Some.is c.in_ok-root.ensures) refl refl

pub returns : goal.returns
returns c =
    let P : Option PlainTable → Type 0 = λ found. MakesPlain c.args.size c.args.schema.now c.args.values.now found in
    made_none c.args.size c.args.schema.now c.args.values.now (subst P c.in-None.is c.in_ok-root.ensures)
