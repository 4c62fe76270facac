-- The image of a device that a choice names.
use Rattle.std.specs.Prelude.{◌≡◌, ℕ, ◌<◌, Bool, false, List, length, take, slice_index, if◌then◌else◌, ◌&&◌, not, nat_lt, find, Option, Some, None, IsTrue}
use Rattle.vfs_model.specs.File.{Found, IsSettled}
use Rattle.vfs_model.specs.Store.{Store, Files, present, AreImages}
use Rattle.mem_vfs.specs.Memory.{mark_at, is_named, store}
use Rattle.mem_vfs.specs.declared.file.File.{File}
use Rattle.mem_vfs.specs.declared.choice.ImageChoice.{ImageChoice}
use Rattle.mem_vfs.specs.declared.choice.Edge.{Edge}
use Rattle.mem_vfs.specs.declared.choice.Edge.TheVariants.{Old, Present}
use Rattle.mem_vfs.specs.declared.choice.Fill.{Fill}
use Rattle.mem_vfs.specs.declared.choice.Fill.TheVariants.{Old as Synced, Present as Now, All}

-- the bytes of the last sync
abbrev pub synced_bytes : File → List ℕ
synced_bytes f = take f.synced_len f.synced.items

-- whether the file is there: as the last sync of names left it, or as it is now. Where the name is sure these agree
abbrev pub there_by : Edge → File → Bool
there_by Old f = f.was_there
there_by Present f = f.there

-- its length: that of the last sync, or the one now; one that is not there now comes back with that of the last sync
abbrev pub length_by : Edge → File → ℕ
length_by Old f = f.synced_len
length_by Present f = if f.there then length f.present.items else f.synced_len

-- what stands at a place that is unsettled: zero where nothing was
abbrev pub fill_by : Fill → File → ℕ → ℕ
fill_by Synced f place = slice_index (synced_bytes f) place
fill_by Now f place = slice_index f.present.items place
fill_by (All b) f place = b

-- a stop leaves the place as it is
abbrev pub is_kept : File → ℕ → Bool
is_kept f place = nat_lt place f.shortest && not (mark_at f.marks.items place)

abbrev pub byte_by : Fill → File → ℕ → ℕ
byte_by fill f place = if is_kept f place then slice_index f.present.items place else fill_by fill f place

-- the image of a file is there as chosen, and then has the chosen length, and at each place what is kept or the chosen fill
pub record IsChosen (choice : ImageChoice) (f : File) (i : Found) : Type 0 where
  pub there : i.there ≡ there_by choice.names f
  pub size : IsTrue i.there → length i.bytes ≡ length_by choice.length f
  pub each : (place : ℕ) → place < length i.bytes → slice_index i.bytes place ≡ byte_by choice.bytes f place

-- and a name without a file has none
abbrev pub IsChosenOf : ImageChoice → Option File → Found → Type 0
IsChosenOf choice None i = i.there ≡ false
IsChosenOf choice (Some f) i = IsChosen choice f i

-- of each name the image is the chosen one
pub record AreChosen (choice : ImageChoice) (files : List File) (i : Files) : Type 0 where
  pub each : (name : List ℕ) → IsChosenOf choice (find (is_named name) files) (i name)

-- nothing of any file is unsettled
pub record AllSettled (files : Store) : Type 0 where
  pub each : (name : List ℕ) → IsSettled (files name)

-- each of these files is the chosen image of the one of its name, and settled
pub record AreImagesBy (choice : ImageChoice) (files images : List File) : Type 0 where
  pub image : AreImages (store files) (present (store images))
  pub settled : AllSettled (store images)
  pub chosen : AreChosen choice files (present (store images))
