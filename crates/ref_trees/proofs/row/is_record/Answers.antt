use Rattle.std.proofs.Common.{ap, Err, sym, subst, IsTrue, leb, length, List, ◌↔◌}
use Rattle.db_format.specs.declared.value.Value.{Value}
use Rattle.db_format.specs.Schema.{IsRecordOf}
use Rattle.ref_trees.proofs.RowLemmas.{counted, no_record}
use Rattle.ref_trees.proofs.row.is_record.Goals as goal

pub returns-in-Ok : goal.returns-in-Ok
returns-in-Ok c =
    let P : List Value → Type 0 = λ vs. IsTrue (leb (length vs) c.args.most) ↔ IsRecordOf c.args.most c.args.payload.now in
    subst P (sym c.as_slice.ensures) (counted c.args.payload.now c.in-Ok.values c.args.most c.one_record.ensures c.in-Ok.ensures.found)

pub returns-in-Err-Corrupt : goal.returns-in-Err-Corrupt
returns-in-Err-Corrupt c =
    no_record c.args.payload.now c.args.most (c.in-Err-Corrupt.ensures.corrupt (ap (λ fault. Err fault) c.in-Err-Corrupt.field-0-is))
