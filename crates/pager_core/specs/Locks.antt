-- The locks of connections on the file of a pager.
use Rattle.std.specs.Prelude.{◌≡◌, ℕ, ◌≤◌, List, Result, Ok, Err}
use Rattle.vfs_model.specs.Lock.{IsOwner, level_at, rank, Grants, Refuses}
use Rattle.vfs_model.specs.declared.level.Level.{Level}
use Rattle.pager_core.specs.declared.fault.PagerFault.{PagerFault}
use Rattle.pager_core.specs.declared.fault.PagerFault.TheVariants.{Busy}

-- one connection at most holds Reserved or more
pub record HasOneWriter (levels : List Level) : Type 0 where
  pub one : (who other : ℕ) → IsOwner who → IsOwner other → 2 ≤ rank (level_at levels who) → 2 ≤ rank (level_at levels other) → who ≡ other

-- a level is granted, or refused, by the lock rule
abbrev pub Asks : ℕ → Level → Result Unit PagerFault → List Level → List Level → Type 0
Asks who level (Ok _) old new = Grants old new who level
Asks who level (Err Busy) old new = (holder : ℕ) × (held : Level) × Refuses old new who level holder held
Asks who level (Err _) old new = ⊥
