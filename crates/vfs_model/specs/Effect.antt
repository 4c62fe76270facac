-- What each call leaves of the file that it is on, by its outcome: what a read finds now, and what a stop may
-- change. Each is a bound: no more than this has changed, and no more than this may a stop change.
-- After sqlite.org, "Atomic Commit In SQLite", section 2.0, and "The OS Backend (VFS) To SQLite".
use Rattle.std.specs.Prelude.{◌≡◌, ◌⊎◌, ℕ, ◌+◌, ◌≤◌, ◌<◌, Bool, false, List, [], length, IsTrue, max, min, slice_get}
use Rattle.vfs_model.specs.File.{FileState, Stays, IsKept, HasOneContent}

-- a place outside the range of so many bytes at an offset
abbrev pub Beside : ℕ → ℕ → ℕ → Type 0
Beside off len place = (place < off) ⊎ (off + len ≤ place)

-- any place
abbrev pub Anywhere : ℕ → Type 0
Anywhere place = Unit {0}

-- what a call adds to what a stop may change: at these places nothing, the length may not become less than the
-- floor, nor more than before or the reach
pub record Loosens (old new : FileState) (stays : ℕ → Type 0) (floor reach : ℕ) : Type 0 where
  pub kept : (place : ℕ) → stays place → IsKept old place → IsKept new place
  pub floor_is : floor ≤ new.shortest
  pub reach_is : new.longest ≤ max old.longest reach

-- what is settled about the name stays so
abbrev pub Surer : FileState → FileState → Type 0
Surer old new = IsTrue old.sure → IsTrue new.sure

-- a file that is not wild was not wild before: only a sync tames, and an opening or a closing
abbrev pub WasTame : FileState → FileState → Type 0
WasTame old new = new.wild ≡ false → old.wild ≡ false

-- a read finds the file as before, and a stop may change no more than before. What was unsettled may be settled:
-- a layer may sync names in any call
pub record NoLooser (old new : FileState) : Type 0 where
  pub now : new.now ≡ old.now
  pub tame : old.wild ≡ false → new.wild ≡ false
  pub was_tame : WasTame old new
  pub sure : Surer old new
  pub stop : old.wild ≡ false → Loosens old new Anywhere old.shortest 0

-- a write, failed: the range may hold anything, the length lies between, all beside the range stays. A file becomes wild
-- only by a write that would make it longer, or one to a delicate file
pub record WriteFailed (delicate : Bool) (old new : FileState) (off len : ℕ) : Type 0 where
  pub there : new.now.there ≡ old.now.there
  pub no_shorter : length old.now.bytes ≤ length new.now.bytes
  pub no_longer : length new.now.bytes ≤ max (length old.now.bytes) (off + len)
  pub beside : (place : ℕ) → place < length old.now.bytes → Beside off len place → Stays old.now new.now place
  pub sure : Surer old new
  pub tame : old.wild ≡ false → delicate ≡ false → off + len ≤ length old.now.bytes → new.wild ≡ false
  pub was_tame : WasTame old new
  pub stop : old.wild ≡ false → new.wild ≡ false → Loosens old new (Beside off len) old.shortest (off + len)

-- a write, done: beside that, the range holds the bytes, and no place of it is bad
pub record Wrote (delicate : Bool) (old new : FileState) (off : ℕ) (bytes : List ℕ) : Type 0 where
  pub touched : WriteFailed delicate old new off (length bytes)
  pub size : length new.now.bytes ≡ max (length old.now.bytes) (off + length bytes)
  pub inside : (place : ℕ) → place < length bytes → slice_get new.now.bytes (off + place) ≡ slice_get bytes place
  pub good : (place : ℕ) → place < length bytes → new.now.bad (off + place) ≡ false

-- a write, refused as full: it would have made the file longer, and the length and all before the offset stay
pub record WriteFull (delicate : Bool) (old new : FileState) (off len : ℕ) : Type 0 where
  pub grows : length old.now.bytes < off + len
  pub there : new.now.there ≡ old.now.there
  pub size : length new.now.bytes ≡ length old.now.bytes
  pub before : (place : ℕ) → place < length old.now.bytes → place < off → Stays old.now new.now place
  pub sure : Surer old new
  pub was_tame : WasTame old new
  pub stop : old.wild ≡ false → new.wild ≡ false → Loosens old new (λ place. place < off) old.shortest (off + len)

-- a cut, failed: the length lies between, the bytes that are left stay, and so do the marks below the length asked for
pub record CutFailed (old new : FileState) (len : ℕ) : Type 0 where
  pub there : new.now.there ≡ old.now.there
  pub no_shorter : min len (length old.now.bytes) ≤ length new.now.bytes
  pub no_longer : length new.now.bytes ≤ length old.now.bytes
  pub bytes : (place : ℕ) → place < length new.now.bytes → slice_get new.now.bytes place ≡ slice_get old.now.bytes place
  pub marks : (place : ℕ) → place < len → new.now.bad place ≡ old.now.bad place
  pub sure : Surer old new
  pub tame : old.wild ≡ false → length old.now.bytes ≤ len → new.wild ≡ false
  pub was_tame : WasTame old new
  pub stop : old.wild ≡ false → new.wild ≡ false → Loosens old new (λ place. place < len) (min old.shortest len) 0

-- a cut, done: beside that, the file has this length
pub record Cut (old new : FileState) (len : ℕ) : Type 0 where
  pub touched : CutFailed old new len
  pub size : length new.now.bytes ≡ len

-- a sync, done: where the file is there, a stop leaves its content as it is now
pub record Synced (old new : FileState) : Type 0 where
  pub now : new.now ≡ old.now
  pub tame : old.wild ≡ false → new.wild ≡ false
  pub sure : Surer old new
  pub content : new.wild ≡ false → HasOneContent new

-- a name was made sure of: one that is not there has nothing that a stop could bring back
pub record NameSynced (old new : FileState) : Type 0 where
  pub stays : NoLooser old new
  pub sure : IsTrue new.sure
  pub gone : new.wild ≡ false → new.now.there ≡ false → new.longest ≤ 0

-- an opening, failed: a file that was there stays, and one that was not may now be there and empty.
-- One that was there and wild may be found with any content
pub record OpenFailed (old new : FileState) : Type 0 where
  pub found : IsTrue old.now.there → old.wild ≡ false → NoLooser old new
  pub made : old.now.there ≡ false → new.now.bytes ≡ []
  pub tame : old.wild ≡ false → new.wild ≡ false
  pub longest : old.wild ≡ false → new.longest ≤ old.longest

-- an opening, done: beside that, the file is there
pub record Opened (old new : FileState) : Type 0 where
  pub touched : OpenFailed old new
  pub there : IsTrue new.now.there

-- a closing: a file that is not wild is as before. Of a wild one the next opening may find any content
pub record Closed (old new : FileState) : Type 0 where
  pub tame : old.wild ≡ false → NoLooser old new
  pub there : new.now.there ≡ old.now.there
  pub sure : Surer old new

-- a deletion, failed: the file stays or is not there any more
pub record DeleteFailed (old new : FileState) : Type 0 where
  pub stays : IsTrue new.now.there → new.now ≡ old.now
  pub longest : old.wild ≡ false → new.wild ≡ false → new.longest ≤ old.longest

-- a deletion, done
pub record Deleted (old new : FileState) : Type 0 where
  pub touched : DeleteFailed old new
  pub gone : new.now.there ≡ false
