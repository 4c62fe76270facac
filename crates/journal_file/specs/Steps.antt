-- What the steps of a commit and of a playback keep of a file, whatever a call was answered.
-- After sqlite.org, "Atomic Commit In SQLite", sections 3 and 4.
use Rattle.std.specs.Prelude.{◌≡◌, ◌≢◌, ◌⊎◌, ℕ, ◌≤◌, ◌<◌, Bool, false, List, [], ◌∷◌, length, drop, IsTrue, Option, Some, None, IsSome, Result, Ok, Err, slice_get}
use Rattle.vfs_model.specs.File.{FileState, Stays, HasOneContent, IsSettled, IsKept as IsSafe}
use Rattle.vfs_model.specs.Effect.{NoLooser, Wrote, WriteFailed, Surer}
use Rattle.vfs_model.specs.Store.{Store, Apart}
use Rattle.vfs_model.specs.declared.layer.Layer.{Layer}
use Rattle.vfs_model.specs.declared.level.Fid.{Fid}
use Rattle.vfs_trait.specs.State.{StackState, OpenStays}
use Rattle.vfs_trait.specs.declared.fault.VfsFault.{VfsFault}
use Rattle.journal_format.specs.Undo.{Undo, laid, over}
use Rattle.journal_format.specs.Journal.{Undoes, all_exist, hot, most_journal}
use Rattle.journal_format.specs.declared.read.Play.{Play}
use Rattle.journal_format.specs.Values.{undo_of}
use Rattle.journal_format.specs.Reading.{IsPlayable}
use Rattle.journal_file.specs.Content.{initial_size, with_reserve, bad_unless, IsUndone, AllStandFor, AllHaveStood}

-- bytes with another first one
abbrev pub with_first : ℕ → List ℕ → List ℕ
with_first b bytes = b ∷ drop 1 bytes

-- the first byte of the file is zero, and stays so over a stop
pub record IsShut (s : FileState) : Type 0 where
  pub there : IsTrue s.now.there
  pub sure : IsTrue s.sure
  pub first : IsSafe s 0
  pub zero : slice_get s.now.bytes 0 ≡ Some 0

-- no image of the file is hot: each is shorter than a header, or begins with a zero wherever it is there
pub record IsCold (s : FileState) : Type 0 where
  pub tame : s.wild ≡ false
  pub cold : (s.longest < 28) ⊎ (IsSafe s 0 × (slice_get s.now.bytes 0 ≡ Some 0))

-- a journal that is empty, or closed
abbrev pub IsClosedOrEmpty : List ℕ → Type 0
IsClosedOrEmpty bytes = (bytes ≡ []) ⊎ (slice_get bytes 0 ≡ Some 0)

-- nothing of the file is unsettled but whether it is there
pub record IsSettledButName (s : FileState) : Type 0 where
  pub tame : s.wild ≡ false
  pub content : HasOneContent s

-- the number was not in use, is the least such, and has the name from now on. Whether something went wrong with a journal is not known
pub record Opens (old new : StackState) (name : List ℕ) (fid : ℕ) : Type 0 where
  pub unused : old.open_files fid ≡ None
  pub least : (other : ℕ) → other < fid → IsSome (old.open_files other)
  pub named : new.open_files fid ≡ Some name
  pub others : (other : ℕ) → other ≢ fid → new.open_files other ≡ old.open_files other
  pub delicate : (other : List ℕ) → other ≢ name → new.delicate other ≡ old.delicate other

-- a refused call leaves no file open that was not
abbrev pub OpensOne : StackState → StackState → List ℕ → Result Fid VfsFault → Type 0
OpensOne old new name (Ok fid) = Opens old new name fid.0
OpensOne old new name (Err _) = OpenStays old new

-- each image of the file has these bytes but for the first
pub record HasButFirst (bytes : List ℕ) (s : FileState) : Type 0 where
  pub there : IsTrue s.now.there
  pub sure : IsTrue s.sure
  pub tame : s.wild ≡ false
  pub shortest : length bytes ≤ s.shortest
  pub longest : s.longest ≤ length bytes
  pub size : length s.now.bytes ≡ length bytes
  pub synced : (place : ℕ) → 1 ≤ place → place < length bytes → s.unsynced place ≡ false
  pub each : (place : ℕ) → 1 ≤ place → place < length bytes → slice_get s.now.bytes place ≡ slice_get bytes place

-- what an undo does not have is as it was, and a stop may change no more of it than before: so the undo gives the same
pub record IsKept (u : Undo) (old new : FileState) : Type 0 where
  pub there : new.now.there ≡ old.now.there
  pub sure : Surer old new
  pub tame : old.wild ≡ false → new.wild ≡ false
  pub long : initial_size u ≤ length old.now.bytes → initial_size u ≤ length new.now.bytes
  pub each : (place : ℕ) → place < initial_size u → laid u.page u.originals place ≡ None → Stays old.now new.now place
  pub shortest : old.wild ≡ false → initial_size u ≤ old.shortest → initial_size u ≤ new.shortest
  pub safe : (place : ℕ) → place < initial_size u → laid u.page u.originals place ≡ None → IsSafe old place → IsSafe new place

-- a database that can be played back: it is there for sure, and long enough
pub record IsLong (u : Undo) (s : FileState) : Type 0 where
  pub there : IsTrue s.now.there
  pub sure : IsTrue s.sure
  pub long : initial_size u ≤ length s.now.bytes

-- a journal that is hot, of pages of this size, and a database that it can be played back to
pub record IsHotOver (page : ℕ) (journal db : FileState) : Type 0 where
  pub undo : Undo
  pub is_hot : hot all_exist journal.now.bytes ≡ Undoes undo
  pub page_is : undo.page ≡ page
  pub long : IsLong undo db

-- each name that is apart from both has the file that it had
pub record BothStayed (layers : List Layer) (old new : Store) (name name' : List ℕ) : Type 0 where
  pub each : (other : List ℕ) → Apart layers name other → Apart layers name' other → NoLooser (old other) (new other)

-- a write that makes its file no longer is refused by no limit
abbrev pub WithinLeaves : Bool → FileState → FileState → ℕ → List ℕ → Result Unit VfsFault → Type 0
WithinLeaves delicate old new off bytes (Ok _) = Wrote delicate old new off bytes
WithinLeaves delicate old new off bytes (Err _) = WriteFailed delicate old new off (length bytes)

-- the file with the pages of an undo, which none of them makes longer
pub record HasLaid (u : Undo) (old new : FileState) : Type 0 where
  pub there : new.now.there ≡ old.now.there
  pub sure : Surer old new
  pub size : length new.now.bytes ≡ length old.now.bytes
  pub each : (place : ℕ) → place < length old.now.bytes → slice_get new.now.bytes place ≡ over (laid u.page u.originals place) (slice_get old.now.bytes place)
  pub bad : (place : ℕ) → place < length old.now.bytes → new.now.bad place ≡ bad_unless (laid u.page u.originals place) (old.now.bad place)

-- what a playback of a hot journal leaves, whatever was answered: each image stands for what one stood for before, and for the
-- settled file of which what the undo needs was kept
pub record Exits (reserve : ℕ) (u : Undo) (j d j' d' : FileState) : Type 0 where
  pub stood : (exists : List ℕ → Bool) → hot exists j.now.bytes ≡ Undoes u → initial_size u ≤ d.shortest → AllHaveStood exists reserve j d j' d'
  pub first : (exists : List ℕ → Bool) (first : FileState) → hot exists j.now.bytes ≡ Undoes u → IsSettled first → IsTrue first.now.there →
      IsKept (with_reserve reserve u) first d → IsUndone (with_reserve reserve u) first.now first.now → AllStandFor exists reserve j' d' first.now

-- what was read is what the bytes undo, where that has pages of this size
abbrev pub IsUndoOf : Undo → Option Play → Type 0
IsUndoOf u None = ⊥
IsUndoOf u (Some play) = undo_of play ≡ u

abbrev pub IsRead : ℕ → List ℕ → Option Play → Type 0
IsRead page bytes found = (u : Undo) → hot all_exist bytes ≡ Undoes u → u.page ≡ page → IsUndoOf u found

-- it can be played back, and has pages of this size
abbrev pub CanPlayAt : ℕ → Option Play → Type 0
CanPlayAt page None = Unit {0}
CanPlayAt page (Some play) = IsPlayable play × (play.page ≡ page)

-- all bytes were read, or there are more than a journal has
abbrev pub IsWhole : List ℕ → Option (List ℕ) → Type 0
IsWhole bytes None = most_journal < length bytes
IsWhole bytes (Some found) = found ≡ bytes
