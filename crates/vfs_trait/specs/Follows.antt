-- That a device follows the disk model: what a call must at least make unsettled. A caller needs bounds from above, which
-- every stack keeps; these bounds from below, which a stack without layers keeps too, refuse a device that never loses
-- anything.
-- After sqlite.org, "Atomic Commit In SQLite", section 2.0, "Hardware Assumptions".
use Rattle.std.specs.Prelude.{◌≡◌, ℕ, ◌+◌, ◌≤◌, ◌<◌, true, false, List, [], max, min, IsTrue, Result, Ok, Err}
use Rattle.vfs_model.specs.File.{FileState}
use Rattle.vfs_model.specs.declared.level.Fid.{Fid}
use Rattle.vfs_trait.specs.State.{StackState, file_at}
use Rattle.vfs_trait.specs.Log.{counted_up}
use Rattle.vfs_trait.specs.declared.fault.VfsFault.{VfsFault}
use Rattle.vfs_trait.specs.declared.fault.VfsFault.TheVariants.{Failed, Memory, Busy, Full, BadPage}

-- at these places a stop may change anything, the length may be as little as the ceiling and as great as the reach, and
-- whatever was unsettled still is
pub record Unsettles (old new : FileState) (touched : ℕ → Type 0) (ceiling reach : ℕ) : Type 0 where
  pub marks : (place : ℕ) → touched place → new.unsynced place ≡ true
  pub stays : (place : ℕ) → place < new.longest → old.unsynced place ≡ true → new.unsynced place ≡ true
  pub shortest : new.shortest ≤ min old.shortest ceiling
  pub longest : max old.longest reach ≤ new.longest

-- the places of a range, and none
abbrev pub Inside : ℕ → ℕ → ℕ → Type 0
Inside off len place = (off ≤ place) × (place < off + len)

abbrev pub Nowhere : ℕ → Type 0
Nowhere place = ⊥

-- a call that was refused settles nothing
pub record StaysUnsettled (old new : FileState) : Type 0 where
  pub content : Unsettles old new Nowhere old.shortest old.longest
  pub name : IsTrue new.sure → IsTrue old.sure

-- a name that was made or deleted is not sure, and a stop may leave it empty
pub record NameUnsettles (old new : FileState) : Type 0 where
  pub unsure : new.sure ≡ false
  pub shortest : new.shortest ≤ 0
  pub longest : old.longest ≤ new.longest

-- a told stack without layers: the device itself
pub record IsDevice (s : StackState) : Type 0 where
  pub told : IsTrue s.tells
  pub bare : s.layers ≡ []

-- each failure raises the count of a device by one, and nothing else does
abbrev pub FaultsFollow : {T : Type 0} → StackState → StackState → Result T VfsFault → Type 0
FaultsFollow old new (Ok _) = new.faults ≡ old.faults
FaultsFollow old new (Err Failed) = new.faults ≡ counted_up old.faults 1
FaultsFollow old new (Err Memory) = new.faults ≡ old.faults
FaultsFollow old new (Err (Busy holder level)) = ⊥
FaultsFollow old new (Err (Full total limit)) = ⊥
FaultsFollow old new (Err (BadPage page kept found)) = ⊥

abbrev pub OpenUnsettles : StackState → StackState → List ℕ → Result Fid VfsFault → Type 0
OpenUnsettles old new name (Ok _) = (old.files name).now.there ≡ false → NameUnsettles (old.files name) (new.files name)
OpenUnsettles old new name (Err _) = Unit {0}

abbrev pub DeleteUnsettles : StackState → StackState → List ℕ → Result Unit VfsFault → Type 0
DeleteUnsettles old new name (Ok _) = IsTrue (old.files name).now.there → NameUnsettles (old.files name) (new.files name)
DeleteUnsettles old new name (Err _) = Unit {0}

abbrev pub WriteUnsettles : StackState → StackState → ℕ → ℕ → ℕ → Result Unit VfsFault → Type 0
WriteUnsettles old new fid off len (Ok _) = Unsettles (file_at old fid) (file_at new fid) (Inside off len) (file_at old fid).shortest (off + len)
WriteUnsettles old new fid off len (Err _) = Unit {0}

abbrev pub CutUnsettles : StackState → StackState → ℕ → ℕ → Result Unit VfsFault → Type 0
CutUnsettles old new fid len (Ok _) = Unsettles (file_at old fid) (file_at new fid) Nowhere len 0
CutUnsettles old new fid len (Err _) = Unit {0}

abbrev pub SyncUnsettles : StackState → StackState → ℕ → Result Unit VfsFault → Type 0
SyncUnsettles old new fid (Ok _) = Unit {0}
SyncUnsettles old new fid (Err _) = StaysUnsettled (file_at old fid) (file_at new fid)

abbrev pub NamesUnsettle : StackState → StackState → Result Unit VfsFault → Type 0
NamesUnsettle old new (Ok _) = Unit {0}
NamesUnsettle old new (Err _) = (name : List ℕ) → StaysUnsettled (old.files name) (new.files name)

-- what a call leaves of a device by these rules
pub record Follows {T : Type 0} (old new : StackState) (result : Result T VfsFault) (unsettles : Result T VfsFault → Type 0) : Type 0 where
  pub counted : IsDevice old → FaultsFollow old new result
  pub unsettled : IsDevice old → unsettles result
