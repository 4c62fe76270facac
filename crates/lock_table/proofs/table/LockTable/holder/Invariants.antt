use Rattle.std.proofs.Common.{ℕ, ◌<◌}
use Rattle.vfs_model.specs.Lock.{InTheWay}
use Rattle.lock_table.proofs.table.LockTable.holder.Given as goal

-- no lesser connection is in the way
abbrev pub invariant-loop-number : goal.invariant-loop-number
invariant-loop-number l = (other : ℕ) → other < l.number → ¬ InTheWay l.self l.owner l.level other
