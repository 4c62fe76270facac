use Rattle.std.proofs.Common.{ap, Err}
use Rattle.ref_schema.proofs.RecordLemmas.{counted, no_record}
use Rattle.ref_schema.proofs.records.is_record_of.Goals as goal

pub returns-in-Ok : goal.returns-in-Ok
returns-in-Ok c = counted c.args.payload.now c.in-Ok.values c.args.columns c.are_few.result c.one_record.ensures c.in-Ok.ensures.found c.are_few.ensures

pub returns-in-Err-Corrupt : goal.returns-in-Err-Corrupt
returns-in-Err-Corrupt c = no_record c.args.payload.now c.args.columns (c.in-Err-Corrupt.ensures.corrupt (ap (λ fault. Err fault) c.in-Err-Corrupt.field-0-is))
