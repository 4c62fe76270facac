use Rattle.std.proofs.Common.{arith, ◌-◌, length, take, drop, length-drop}
use Rattle.std.proofs.lemmas.List.{take_all}
use Rattle.ref_stack.proofs.SumLemmas.{sums_step}
use Rattle.ref_stack.proofs.sums.+sums.Goals as goal

pub returns : goal.returns
returns t c =
    sums_step c.args.first c.args.second c.after-first.result c.after-second.result c.little.result c.little-2.result c.args.bytes.now
    (take (length c.args.bytes.now - 8) (drop 8 c.args.bytes.now)) c.sums.result c.in-len8-up.len_at_least
    (take_all (length c.args.bytes.now - 8) (drop 8 c.args.bytes.now) (omega (arith, length-drop 8 c.args.bytes.now)))
    c.little.ensures c.little-2.ensures c.after-first.ensures c.after-second.ensures c.sums.ensures
