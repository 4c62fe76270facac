use Rattle.std.proofs.Common.{◌≤◌, arith}
use Rattle.std.proofs.lemmas.Result.{err_from_is_err_and}
use Rattle.table_store.proofs.ReadLemmas.{is_schema, schema_refused}
use Rattle.table_store.proofs.schema.read_schema.Goals as goal

pub returns-in_err-rows-clause-refused : goal.returns-in_err-rows-clause-refused
returns-in_err-rows-clause-refused g c =
    let state = g.S.PageSpace.state in
    let old = state c.args.space.now in
    let new = state c.walk.new.space in
    let some : 1 ≤ old.pages.size = omega (arith, c.if-size-eq0.false, c.size.ensures.value) in
    let p = err_from_is_err_and c.from_residual.result c.from_residual.ensures.1 in
    rw (p.1, p.2) (schema_refused old new c.in_err-rows.field-0.0 some c.in_err-rows.ensures.refused)

pub returns-clause-found : goal.returns-clause-found
returns-clause-found g c = λ t.
    let old = g.S.PageSpace.state c.args.space.now in
    let some : 1 ≤ old.pages.size = omega (arith, c.if-size-eq0.false, c.size.ensures.value) in
    let schema = c.in_ok-schema.schema in
    is_schema old.pages c.in_ok-rows.rows.items schema.rowids.items schema.rows.items some (c.in_ok-rows.ensures.found t) c.in_ok-schema.ensures.rowids c.in_ok-schema.ensures.values
