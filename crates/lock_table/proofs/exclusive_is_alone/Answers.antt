use Rattle.std.proofs.Common.{ap, arith}
use Rattle.vfs_model.specs.Lock.{rank, level_at}
use Rattle.lock_table.proofs.KeptLemmas.{IsSafe-reached, free_from_rank}
use Rattle.lock_table.proofs.exclusive_is_alone.Goals as goal

pub returns : goal.returns
returns c = λ levels owner other reached is_owner is_other exclusive another.
    free_from_rank (level_at levels other) ((IsSafe-reached levels reached).alone owner other is_owner is_other another (omega (arith, ap rank exclusive)))
