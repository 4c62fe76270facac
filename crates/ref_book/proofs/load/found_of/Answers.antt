use Rattle.std.proofs.Common.{subst, List, arith}
use Rattle.db_format.specs.declared.value.Value.{Value}
use Rattle.db_format.specs.Schema.{IsTableOf}
use Rattle.ref_schema.proofs.RecordLemmas.{zip_more}
use Rattle.ref_book.proofs.load.found_of.Goals as goal

pub loop-record-preserved : goal.loop-record-preserved
loop-record-preserved c =
    let P : List Value → Type 0 = λ values. IsTableOf c.args.size c.args.records.now values c.in_ok-found.found in
    zip_more (IsTableOf c.args.size c.args.records.now) c.args.records.now c.loop-record.all.items c.push.new.self.items c.loop-record.record-index c.record-item.result c.in_ok-found.found
    (omega arith) c.record-item.is c.in_ok-push.ensures.items c.loop-record.invariant
    (subst P c.as_slice.ensures c.in_ok-found.ensures)
