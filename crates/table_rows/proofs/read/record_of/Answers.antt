use Rattle.std.proofs.Common.{refl, Err, ◌<◌, length, List, ℕ, subst, ap, arith}
use Rattle.db_format.specs.Record.{IsRecord}
use Rattle.table_rows.proofs.RecordLemmas.{no_record, too_many}
use Rattle.table_rows.proofs.read.record_of.Goals as goal

pub returns-in-Err-Corrupt-clause-refused : goal.returns-in-Err-Corrupt-clause-refused
returns-in-Err-Corrupt-clause-refused c =
    let none = c.in-Err-Corrupt.ensures.corrupt (ap (λ fault. Err fault) c.in-Err-Corrupt.field-0-is) in
    (refl, no_record c.args.columns c.args.row.now.payload c.as_slice.result.now c.as_slice.ensures none)

pub returns-then-columns-as_slice-clause-refused : goal.returns-then-columns-as_slice-clause-refused
returns-then-columns-as_slice-clause-refused c =
    let P : List ℕ → Type 0 = λ l. IsRecord l c.in-Ok.record in
    let is : IsRecord c.args.row.now.payload c.in-Ok.record = subst P c.as_slice.ensures c.in-Ok.ensures.found in
    let many : c.args.columns < length c.in-Ok.record = omega (arith, c.if-columns-as_slice.true, ap length c.as_slice-2.ensures) in
    (refl, too_many c.one_record.ensures c.args.columns c.args.row.now.payload c.in-Ok.record is many)
