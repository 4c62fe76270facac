use Rattle.std.proofs.Common.{ap, Err, subst, ℕ, List, arith}
use Rattle.db_format.specs.Record.{IsRecord}
use Rattle.db_format.specs.declared.value.Value.{Value}
use Rattle.tree_model.specs.Tree.{Row}
use Rattle.ref_schema.proofs.RecordLemmas.{no_records, zip_more}
use Rattle.ref_schema.proofs.records.records_of.Goals as goal

pub returns-in-Err-Corrupt-clause-none : goal.returns-in-Err-Corrupt-clause-none
returns-in-Err-Corrupt-clause-none c =
    let P : List ℕ → Type 0 = λ payload. (values : List Value) → ¬ (IsRecord payload values) in
    no_records c.args.rows.now c.loop-row.row-index c.row-item.result (omega arith) c.row-item.is
    (subst P c.payload.ensures (c.in-Err-Corrupt.ensures.corrupt (ap (λ fault. Err fault) c.in-Err-Corrupt.field-0-is)))

pub loop-row-preserved : goal.loop-row-preserved
loop-row-preserved c =
    let P : List ℕ → Type 0 = λ payload. IsRecord payload c.in-Ok.record in
    zip_more (λ (row : Row) (values : List Value). IsRecord row.payload values) c.args.rows.now c.loop-row.records.items c.push.new.self.items c.loop-row.row-index c.row-item.result c.in-Ok.record
    (omega arith) c.row-item.is c.in_ok-push-in-Ok.ensures.items c.loop-row.invariant (subst P c.payload.ensures c.in-Ok.ensures.found)
