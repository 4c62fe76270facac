use Rattle.std.proofs.Common.{◌-◌, ◌^◌, ◌≤◌, ◌<◌}
use Rattle.db_format.proofs.varint.varint_len.Given as goal

-- one byte fewer does not hold the bits
abbrev pub invariant-loop-len : goal.invariant-loop-len
invariant-loop-len l = 1 < l.len → 128 ^ (l.len - 1) ≤ l.bits
