-- What each call leaves of its file: no more than any stack may, and no less than a device must.
use Rattle.std.specs.Prelude.{◌≡◌, ℕ, ◌+◌, false, List, [], length, IsTrue, Result, Ok, Err}
use Rattle.std.specs.declared.alloc.AllocError.{AllocError}
use Rattle.vfs_model.specs.File.{FileState}
use Rattle.vfs_model.specs.Effect.{Wrote, WriteFailed, Cut, Opened, OpenFailed, Deleted}
use Rattle.vfs_model.specs.Store.{OthersStay}
use Rattle.vfs_trait.specs.Follows.{Unsettles, NameUnsettles, Inside, Nowhere}
use Rattle.mem_vfs.specs.declared.file.File.{File}
use Rattle.mem_vfs.specs.Memory.{store, IsThere}

pub record IsOpened (old new : FileState) : Type 0 where
  pub opened : Opened old new
  pub unsettles : old.now.there ≡ false → NameUnsettles old new

-- an opening, done or without memory
abbrev pub Makes : Result Unit AllocError → FileState → FileState → Type 0
Makes (Ok _) old new = IsOpened old new
Makes (Err _) old new = OpenFailed old new

pub record IsStored (off : ℕ) (bytes : List ℕ) (old new : FileState) : Type 0 where
  pub wrote : Wrote false old new off bytes
  pub unsettles : Unsettles old new (Inside off (length bytes)) old.shortest (off + length bytes)

-- a write, done or without memory
abbrev pub Writes : Result Unit AllocError → ℕ → List ℕ → FileState → FileState → Type 0
Writes (Ok _) off bytes old new = IsStored off bytes old new
Writes (Err _) off bytes old new = WriteFailed false old new off (length bytes)

pub record IsCut (len : ℕ) (old new : FileState) : Type 0 where
  pub cut : Cut old new len
  pub unsettles : Unsettles old new Nowhere len 0

pub record IsDeleted (old new : FileState) : Type 0 where
  pub deleted : Deleted old new
  pub unsettles : IsTrue old.now.there → NameUnsettles old new

-- the file of one name changed so, and every other is as it was
pub record Changes (change : FileState → FileState → Type 0) (old new : List File) (name : List ℕ) : Type 0 where
  pub file : change (store old name) (store new name)
  pub others : OthersStay [] (store old) (store new) name

-- every file that was there is there
pub record StayThere (old new : List File) : Type 0 where
  pub each : (name : List ℕ) → IsThere old name → IsThere new name
