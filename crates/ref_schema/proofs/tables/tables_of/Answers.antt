use Rattle.std.proofs.Common.{subst, arith, List}
use Rattle.db_format.specs.declared.value.Value.{Value}
use Rattle.db_format.specs.Schema.{IsTableOf}
use Rattle.ref_schema.proofs.TableLemmas.{tables_more}
use Rattle.ref_schema.proofs.tables.tables_of.Goals as goal

pub loop-record-preserved : goal.loop-record-preserved
loop-record-preserved c =
    let P : List Value → Type 0 = λ values. IsTableOf c.args.size c.args.schema.now values c.in_ok-found.found in
    tables_more c.args.size c.args.schema.now c.args.schema.now c.loop-record.record-index c.record-item.result c.in_ok-found.found c.loop-record.tables.items c.push_found.new.tables.items
    (omega arith) c.record-item.is c.loop-record.invariant
    (subst P c.as_slice.ensures c.in_ok-found.ensures)
    c.in_ok-push_found.ensures
