use Rattle.std.proofs.Common.{◌≡◌, ◌+◌, ◌-◌, ◌<◌, length, subst, arith}
use Rattle.db_format.proofs.VarintLemmas.{Filled, fill_more}
use Rattle.db_format.proofs.varint.put_sevens.Goals as goal

pub loop-at-preserved : goal.loop-at-preserved
loop-at-preserved c =
    let l = c.loop-at in
    let at = l.at - 1 in
    let next : l.at ≡ at + 1 = omega arith in
    let within : at < length l.bytes = omega arith in
    let so_far : Filled l.bytes l.at l.rest c.args.bits = record { continues = l.invariant.continues; room = l.invariant.room; number = l.invariant.number } in
    let more = fill_more l.bytes at l.rest c.args.bits within (subst (λ n. Filled l.bytes n l.rest c.args.bits) next so_far) in
    record { continues = more.continues; room = more.room; number = more.number }
