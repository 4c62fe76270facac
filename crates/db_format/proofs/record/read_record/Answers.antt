use Rattle.db_format.proofs.RecordLemmas.{fields_of_record}
use Rattle.db_format.proofs.record.read_record.Goals as goal

pub returns-in_default-clause-corrupt : goal.returns-in_default-clause-corrupt
returns-in_default-clause-corrupt c = λ _ values r. c.in_default.ensures.none r.types r.contents r.parts

pub returns-clause-corrupt : goal.returns-clause-corrupt
returns-clause-corrupt c = λ corrupt values r.
    c.read_values.ensures.corrupt corrupt values
    (fields_of_record c.args.payload.now c.in-Some.types.now c.in-Some.contents.now values c.in-Some.ensures.found r)
