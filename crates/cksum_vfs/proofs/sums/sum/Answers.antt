use Rattle.std.proofs.Common.{arith, ◌-◌, length, take, drop, length-drop, ◌∙◌}
use Rattle.std.proofs.lemmas.List.{take_all}
use Rattle.cksum_vfs.proofs.SumLemmas.{sums_on}
use Rattle.cksum_vfs.proofs.sums.sum.Goals as goal

pub loop-rest-preserved : goal.loop-rest-preserved
loop-rest-preserved c =
    sums_on c.loop-rest.first c.loop-rest.second c.after-first.result c.after-second.result c.little.result c.little-in-len8-up.result c.loop-rest.rest.now
    (take (length c.loop-rest.rest.now - 8) (drop 8 c.loop-rest.rest.now)) c.in-len8-up.len_at_least
    (take_all (length c.loop-rest.rest.now - 8) (drop 8 c.loop-rest.rest.now) (omega (arith, length-drop 8 c.loop-rest.rest.now)))
    c.little.ensures c.little-in-len8-up.ensures c.after-first.ensures c.after-second.ensures ∙ c.loop-rest.invariant
