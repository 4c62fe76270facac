use Rattle.std.proofs.Common.{sym}
use Rattle.db_format.proofs.RecordLemmas.{no_value_by_count, no_value_by_type, no_value_by_size}
use Rattle.db_format.proofs.record.first_part.Goals as goal

pub returns-in_err-serial-clause-none : goal.returns-in_err-serial-clause-none
returns-in_err-serial-clause-none c =
    rw c.from_residual.ensures (no_value_by_count c.args.types.now c.args.contents.now c.in_err-serial.ensures.none)

pub returns-in_err-size-clause-none : goal.returns-in_err-size-clause-none
returns-in_err-size-clause-none c =
    let read = c.in_ok-serial in
    rw c.from_residual-in_err-size.ensures
    (no_value_by_type c.args.types.now c.args.contents.now read.len read.serial read.ensures.found (sym c.in_err-size.ensures))

pub returns-then-contents-size-clause-none : goal.returns-then-contents-size-clause-none
returns-then-contents-size-clause-none c =
    let read = c.in_ok-serial in
    no_value_by_size c.args.types.now c.args.contents.now read.len read.serial c.in_ok-size.size read.ensures.found (sym c.in_ok-size.ensures) c.if-contents-size.true
