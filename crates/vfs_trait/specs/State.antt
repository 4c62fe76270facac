-- What contracts say of a stack, as one record, and what calls keep of it.
use Rattle.std.specs.Prelude.{◌≡◌, ◌≢◌, ℕ, ◌≤◌, Bool, false, List, [], ◌∷◌, length, IsTrue, Option, Some, None, IsSome, unwrap_or}
use Rattle.vfs_model.specs.File.{FileState}
use Rattle.vfs_model.specs.Store.{Store, Apart, present}
use Rattle.vfs_model.specs.Sound.{Sound}
use Rattle.vfs_model.specs.Name.{kind_of}
use Rattle.vfs_model.specs.Lock.{all_free}
use Rattle.vfs_model.specs.Pass.{Lengths, LengthsOnly, lengths_shown, of_file, others_of}
use Rattle.vfs_model.specs.declared.name.Kind.{Kind}
use Rattle.vfs_model.specs.declared.name.Kind.TheVariants.{Main, Journal, Super}
use Rattle.vfs_model.specs.declared.level.Level.{Level}
use Rattle.vfs_model.specs.declared.layer.Layer.{Layer}
use Rattle.vfs_model.specs.declared.layer.Layer.TheVariants.{Trace, Cksum, Append, Mux, Quota}
use Rattle.vfs_trait.specs.Log.{Ring}

-- A stack: whether it tells the content of its files, the files as seen from above, those of its device, its layers, the
-- top one first; for each quota layer the present limits of its groups; the lengths of the open databases at each layer that counts them;
-- the names of the open files by their numbers; of which of them a write or cut went wrong since it was opened, so that
-- the lengths say nothing of it; the levels of the owners at each of them; which open names are databases that an append
-- layer shows whole, so that a write can make them wild; how often the device has failed; and the calls that each trace
-- layer keeps.
pub record StackState : Type 0 where
  pub tells : Bool
  pub files : Store
  pub base : Store
  pub layers : List Layer
  pub limits : List (List ℕ)
  pub lengths : Lengths
  pub open_files : ℕ → Option (List ℕ)
  pub broken : ℕ → Bool
  pub levels : ℕ → List Level
  pub delicate : List ℕ → Bool
  pub faults : ℕ
  pub log : List Ring

abbrev pub IsOpen : StackState → ℕ → Type 0
IsOpen s fid = IsSome (s.open_files fid)

-- the name has room for the number of a chunk, where files are cut into chunks
abbrev pub IsShort : List Layer → List ℕ → Type 0
IsShort [] name = Unit {0}
IsShort (Trace ∷ below) name = IsShort below name
IsShort (Cksum page ∷ below) name = IsShort below name
IsShort (Append ∷ below) name = IsShort below name
IsShort (Mux chunk ∷ below) name = length name ≤ 155
IsShort (Quota groups ∷ below) name = IsShort below name

-- a name that a call may open or delete: no open file has it, or under a multiplexor a chunk of it
pub record IsFree (s : StackState) (name : List ℕ) : Type 0 where
  pub short : IsShort s.layers name
  pub apart : (fid : ℕ) (other : List ℕ) → s.open_files fid ≡ Some other → Apart s.layers name other

-- no file is open
abbrev pub NoneOpen : StackState → Type 0
NoneOpen s = (fid : ℕ) → s.open_files fid ≡ None

-- the name of an open file
abbrev pub name_at : StackState → ℕ → List ℕ
name_at s fid = unwrap_or (s.open_files fid) []

-- an open file
abbrev pub file_at : StackState → ℕ → FileState
file_at s fid = s.files (name_at s fid)

-- what every call keeps: whether content is told, and the layers; and the count of faults does not fall
pub record Steady (old new : StackState) : Type 0 where
  pub tells : new.tells ≡ old.tells
  pub layers : new.layers ≡ old.layers
  pub faults : old.faults ≤ new.faults

-- no limit changes
abbrev pub LimitsStay : StackState → StackState → Type 0
LimitsStay old new = new.limits ≡ old.limits

-- no owner's level changes
pub record LevelsStay (old new : StackState) : Type 0 where
  pub each : (fid : ℕ) → new.levels fid ≡ old.levels fid

-- the same files are open by the same numbers, and the same names are delicate
pub record OpenStays (old new : StackState) : Type 0 where
  pub names : (fid : ℕ) → new.open_files fid ≡ old.open_files fid
  pub delicate : (name : List ℕ) → new.delicate name ≡ old.delicate name

-- the name of an open database, by the names that are open
pub record IsOpenMain (open_files : ℕ → Option (List ℕ)) (name : List ℕ) : Type 0 where
  pub fid : ℕ
  pub named : open_files fid ≡ Some name
  pub is_main : kind_of name ≡ Main

-- an open database of which no write or cut went wrong since it was opened
pub record IsCounted (s : StackState) (fid : ℕ) (name : List ℕ) : Type 0 where
  pub named : s.open_files fid ≡ Some name
  pub is_main : kind_of name ≡ Main
  pub intact : s.broken fid ≡ false

-- its lengths
abbrev pub LengthsOf : StackState → List ℕ → Lengths
LengthsOf s name = of_file s.layers name s.lengths

-- no length changes
abbrev pub LengthsStay : StackState → StackState → Type 0
LengthsStay old new = new.lengths ≡ old.lengths

-- none but those of this file, if it is a database
abbrev pub LengthsBeside : Kind → StackState → StackState → List ℕ → Type 0
LengthsBeside Main old new name = others_of old.layers name new.lengths ≡ others_of old.layers name old.lengths
LengthsBeside Journal old new name = LengthsStay old new
LengthsBeside Super old new name = LengthsStay old new

-- of no open file does it change whether a write or cut of it went wrong, or of none but this one
pub record BrokenStays (old new : StackState) : Type 0 where
  pub each : (fid : ℕ) → IsSome (old.open_files fid) → new.broken fid ≡ old.broken fid

pub record BrokenBeside (old new : StackState) (fid : ℕ) : Type 0 where
  pub each : (other : ℕ) → other ≢ fid → IsSome (old.open_files other) → new.broken other ≡ old.broken other

-- all that a call leaves which is none of opening, closing, writing, cutting, asking for a length, locking and control
pub record Rests (old new : StackState) : Type 0 where
  pub limits : LimitsStay old new
  pub levels : LevelsStay old new
  pub opens : OpenStays old new
  pub lengths : LengthsStay old new
  pub broken : BrokenStays old new

-- what one leaves that writes or cuts the file of a number: once a write or cut of it went wrong, this is known until it is
-- closed
pub record RestsBut (old new : StackState) (fid : ℕ) : Type 0 where
  pub limits : LimitsStay old new
  pub levels : LevelsStay old new
  pub opens : OpenStays old new
  pub lengths : LengthsBeside (kind_of (name_at old fid)) old new (name_at old fid)
  pub broken : BrokenBeside old new fid
  pub known : IsTrue (old.broken fid) → IsTrue (new.broken fid)

-- and what asking for its length leaves: a file of which something went wrong may be measured anew
pub record RestsMeasured (old new : StackState) (fid : ℕ) : Type 0 where
  pub limits : LimitsStay old new
  pub levels : LevelsStay old new
  pub opens : OpenStays old new
  pub lengths : LengthsBeside (kind_of (name_at old fid)) old new (name_at old fid)
  pub intact : old.broken fid ≡ false → LengthsStay old new
  pub broken : BrokenStays old new

-- a file that is not open is locked by none
pub record ClosedFree (s : StackState) : Type 0 where
  pub each : (fid : ℕ) → s.open_files fid ≡ None → s.levels fid ≡ all_free

-- two open files have names of which a call on one leaves the other
pub record OpenApart (s : StackState) : Type 0 where
  pub each : (fid other : ℕ) (name name' : List ℕ) → fid ≢ other → s.open_files fid ≡ Some name → s.open_files other ≡ Some name' → Apart s.layers name name'

-- no name is delicate that is not open
pub record ClosedSturdy (s : StackState) : Type 0 where
  pub each : (name : List ℕ) → ((fid : ℕ) → s.open_files fid ≢ Some name) → s.delicate name ≡ false

-- What holds after every call. Where content is told, the files are what the layers show of the device, now and after a
-- stop, and the lengths of an open database that is not wild are those of the device's files as each layer shows them. No
-- other file than an open database has lengths
pub record Stands (s : StackState) : Type 0 where
  pub sound : IsTrue s.tells → Sound s.layers s.base s.files
  pub counted : IsTrue s.tells → (fid : ℕ) (name : List ℕ) → IsCounted s fid name → (s.files name).wild ≡ false →
      LengthsOf s name ≡ lengths_shown s.layers (present s.base) (name ∷ [])
  pub only_open : LengthsOnly s.layers (IsOpenMain s.open_files) s.lengths
  pub apart : OpenApart s
  pub free : ClosedFree s
  pub sturdy : ClosedSturdy s
