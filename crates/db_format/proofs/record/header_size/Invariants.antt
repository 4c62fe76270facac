use Rattle.std.proofs.Common.{ℕ, ◌+◌, ◌^◌, ◌≤◌, ◌<◌}
use Rattle.db_format.proofs.record.header_size.Given as goal

-- no varint of fewer bytes will do
abbrev pub invariant-loop-len : goal.invariant-loop-len
invariant-loop-len l = (fewer : ℕ) → 1 ≤ fewer → fewer < l.len → 128 ^ fewer ≤ fewer + l.types
