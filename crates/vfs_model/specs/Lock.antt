-- Locks: the levels that the owners hold on one file, and the lock rule.
-- After sqlite.org, "File Locking And Concurrency In SQLite Version 3", section 3.0, "Locking".
use Rattle.std.specs.Prelude.{◌≡◌, ◌≢◌, ℕ, ◌-◌, ◌≤◌, ◌<◌, List, replicate, slice_index_or, slice_set}
use Rattle.vfs_model.specs.declared.level.Level.{Level}
use Rattle.vfs_model.specs.declared.level.Level.TheVariants.{Free, Shared, Reserved, Pending, Exclusive}

-- the number of an owner
abbrev pub IsOwner : ℕ → Type 0
IsOwner number = (1 ≤ number) × (number ≤ 8)

-- how high a level is
abbrev pub rank : Level → ℕ
rank Free = 0
rank Shared = 1
rank Reserved = 2
rank Pending = 3
rank Exclusive = 4

-- every owner is free; the levels of all owners are a list, the first that of owner 1
abbrev pub all_free : List Level
all_free = replicate 8 Free

-- the level that an owner holds
abbrev pub level_at : List Level → ℕ → Level
level_at levels owner = slice_index_or levels (owner - 1) Free

-- an owner holds this level from now on, and every other what it held
abbrev pub with_level : List Level → ℕ → Level → List Level
with_level levels owner level = slice_set levels (owner - 1) level

-- what an owner may ask: Shared, Reserved over Shared, Exclusive over Reserved
abbrev pub MayAsk : List Level → ℕ → Level → Type 0
MayAsk levels owner Free = ⊥
MayAsk levels owner Shared = Unit {0}
MayAsk levels owner Reserved = 1 ≤ rank (level_at levels owner)
MayAsk levels owner Pending = ⊥
MayAsk levels owner Exclusive = 2 ≤ rank (level_at levels owner)

-- the second level, held by another, keeps the first out: Pending and Exclusive keep out readers, Reserved and
-- more a second writer, any lock one that is to be alone
abbrev pub KeepsOut : Level → Level → Type 0
KeepsOut Free other = ⊥
KeepsOut Shared other = 3 ≤ rank other
KeepsOut Reserved other = 2 ≤ rank other
KeepsOut Pending other = ⊥
KeepsOut Exclusive other = 1 ≤ rank other

-- another owner is in the way of the level that an owner asks
pub record InTheWay (levels : List Level) (owner : ℕ) (asked : Level) (other : ℕ) : Type 0 where
  pub numbered : IsOwner other
  pub another : other ≢ owner
  pub keeps_out : KeepsOut asked (level_at levels other)

-- no other owner is
pub record IsUnhindered (levels : List Level) (owner : ℕ) (asked : Level) : Type 0 where
  pub none : (other : ℕ) → ¬ InTheWay levels owner asked other

-- the least other owner that is
pub record IsHolder (levels : List Level) (owner : ℕ) (asked : Level) (holder : ℕ) : Type 0 where
  pub in_the_way : InTheWay levels owner asked holder
  pub least : (other : ℕ) → other < holder → ¬ InTheWay levels owner asked other

-- a level is granted: one that is held or passed changes nothing, and any other is asked where no other owner is
-- in the way
pub record Grants (old new : List Level) (owner : ℕ) (asked : Level) : Type 0 where
  pub held : rank asked ≤ rank (level_at old owner) → new ≡ old
  pub unhindered : rank (level_at old owner) < rank asked → IsUnhindered old owner asked
  pub raised : rank (level_at old owner) < rank asked → new ≡ with_level old owner asked

-- what an owner leaves that is refused: Pending where it asked Exclusive, so that no new reader comes
abbrev pub after_refusal : List Level → ℕ → Level → List Level
after_refusal levels owner Free = levels
after_refusal levels owner Shared = levels
after_refusal levels owner Reserved = levels
after_refusal levels owner Pending = levels
after_refusal levels owner Exclusive = with_level levels owner Pending

-- a level is refused: it is higher than the one held, and of the others in the way this is the least, with its level
pub record Refuses (old new : List Level) (owner : ℕ) (asked : Level) (holder : ℕ) (level : Level) : Type 0 where
  pub higher : rank (level_at old owner) < rank asked
  pub holder_is : IsHolder old owner asked holder
  pub level_is : level ≡ level_at old holder
  pub levels : new ≡ after_refusal old owner asked

-- an owner falls to a level: one that is no higher stays
pub record Lowers (old new : List Level) (owner : ℕ) (level : Level) : Type 0 where
  pub kept : rank (level_at old owner) ≤ rank level → new ≡ old
  pub lowered : rank level < rank (level_at old owner) → new ≡ with_level old owner level
