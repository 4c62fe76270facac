-- What the lock rule keeps, whichever calls were made.
use Rattle.std.specs.Prelude.{◌≡◌, ◌≢◌, ℕ, ◌≤◌, List}
use Rattle.vfs_model.specs.Lock.{IsOwner, rank, all_free, level_at, MayAsk, Grants, Refuses, Lowers}
use Rattle.vfs_model.specs.declared.level.Level.{Level}
use Rattle.vfs_model.specs.declared.level.Level.TheVariants.{Free, Exclusive}

-- the levels that calls of a lock table lead to from one where all are free
pub data Reached : List Level → Type 0 where
  fresh : Reached all_free
  granted : (old new : List Level) (owner : ℕ) (asked : Level) → Reached old → IsOwner owner → MayAsk old owner asked →
      Grants old new owner asked → Reached new
  refused : (old new : List Level) (owner : ℕ) (asked : Level) (holder : ℕ) (level : Level) → Reached old → IsOwner owner →
      MayAsk old owner asked → Refuses old new owner asked holder level → Reached new
  lowered : (old new : List Level) (owner : ℕ) (level : Level) → Reached old → IsOwner owner → Lowers old new owner level →
      Reached new

-- no two owners hold Reserved or more
abbrev pub OneWriter : Type 0
OneWriter = (levels : List Level) (owner other : ℕ) → Reached levels → IsOwner owner → IsOwner other →
    2 ≤ rank (level_at levels owner) → 2 ≤ rank (level_at levels other) → owner ≡ other

-- where an owner holds Exclusive, every other is free
abbrev pub ExclusiveIsAlone : Type 0
ExclusiveIsAlone = (levels : List Level) (owner other : ℕ) → Reached levels → IsOwner owner → IsOwner other →
    level_at levels owner ≡ Exclusive → other ≢ owner → level_at levels other ≡ Free

-- while an owner holds Pending or Exclusive, no other gets a level that it has not
abbrev pub NoneRises : Type 0
NoneRises = (old new : List Level) (owner other : ℕ) (asked : Level) → IsOwner owner → IsOwner other →
    3 ≤ rank (level_at old owner) → other ≢ owner → MayAsk old other asked → Grants old new other asked → new ≡ old
