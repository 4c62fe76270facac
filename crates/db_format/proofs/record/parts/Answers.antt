use Rattle.std.proofs.Common.{◌≡◌, ◌-◌, length, take, drop, ap, ◌∙◌, inl, inr}
use Rattle.std.proofs.lemmas.List.{take_rest}
use Rattle.db_format.proofs.RecordLemmas.{no_parts_by_count, no_parts_by_size, parts_read}
use Rattle.db_format.proofs.record.parts.Goals as goal

pub returns-in_err-size-clause-none : goal.returns-in_err-size-clause-none
returns-in_err-size-clause-none c =
    rw c.from_residual.ensures (λ types contents h. no_parts_by_count c.args.payload.now types contents c.in_err-size.ensures.none h)

pub returns-then-size-len-clause-none : goal.returns-then-size-len-clause-none
returns-then-size-len-clause-none c =
    let read = c.in_ok-size in
    λ types contents h.
    no_parts_by_size c.args.payload.now types contents read.len read.size read.ensures.found read.ensures.within
    (elim c.then-size-len.either [ inl less ↦ inl less | inr more ↦ inr more.1 ]) h

pub returns-clause-found : goal.returns-clause-found
returns-clause-found c =
    let read = c.in_ok-size in
    let payload = c.args.payload.now in
    let split = c.split_at.ensures in
    let types : take (length c.split_at.result.0.now - read.len) (drop read.len c.split_at.result.0.now) ≡ drop read.len (take read.size payload) =
    take_rest c.split_at.result.0.now read.len ∙ ap (drop read.len) split.front in
    rw (types, split.back) (parts_read payload read.len read.size read.ensures.found c.if-size-len.false c.if-payload-size.false)
