-- What a lock table answers, by cases.
use Rattle.std.specs.Prelude.{ℕ, List, Result, Ok, Err}
use Rattle.vfs_model.specs.Lock.{Grants, Refuses}
use Rattle.vfs_model.specs.declared.level.Level.{Level}
use Rattle.lock_table.specs.declared.table.Busy.{Busy}

-- by the lock rule a level is granted, or refused for the holder that is named
abbrev pub Takes : List Level → List Level → ℕ → Level → Result Unit Busy → Type 0
Takes old new owner asked (Ok _) = Grants old new owner asked
Takes old new owner asked (Err busy) = Refuses old new owner asked busy.holder busy.level
