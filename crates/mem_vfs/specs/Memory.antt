-- What a device in memory holds, as the states of files by their names.
use Rattle.std.specs.Prelude.{◌≡◌, ◌≢◌, ℕ, zero, suc, Bool, true, false, List, [], ◌∷◌, length, Option, Some, None, IsSome, IsTrue, slice_get, slice_index_or, find, ◌<◌}
use Rattle.std.specs.Option.{option_map_or}
use Rattle.std.specs.Str.{bytes_eq}
use Rattle.vfs_model.specs.File.{FileState, absent}
use Rattle.vfs_model.specs.Store.{Store}
use Rattle.vfs_model.specs.Lock.{all_free}
use Rattle.vfs_model.specs.declared.level.Level.{Level}
use Rattle.mem_vfs.specs.declared.file.File.{File}
use Rattle.mem_vfs.specs.declared.handles.Handle.{Handle}

-- whether a place was written since the last sync: marks are kept up to the longest length
abbrev pub mark_at : List Bool → ℕ → Bool
mark_at marks place = slice_index_or marks place false

-- a file in memory
abbrev pub file_state : File → FileState
file_state f = record {
  now = record { there = f.there; bytes = f.present.items; bad = λ _. false };
  unsynced = mark_at f.marks.items;
  shortest = f.shortest;
  longest = length f.marks.items;
  sure = f.sure;
  wild = false;
}

abbrev pub is_named : List ℕ → File → Bool
is_named name f = bytes_eq f.name name

-- the files by their names: of two files of one name the first
abbrev pub store : List File → Store
store files name = option_map_or file_state (find (is_named name) files) absent

-- the first file of the name stands here
abbrev pub IsPlace : List File → List ℕ → ℕ → Type 0
IsPlace [] name i = ⊥
IsPlace (f ∷ files) name zero = is_named name f ≡ true
IsPlace (f ∷ files) name (suc i) = (is_named name f ≡ false) × IsPlace files name i

-- a file of the name is there
abbrev pub IsThere : List File → List ℕ → Type 0
IsThere files name = IsTrue (store files name).now.there

-- the name and the levels of a number
abbrev pub name_in : Option (Option Handle) → Option (List ℕ)
name_in None = None
name_in (Some None) = None
name_in (Some (Some handle)) = Some handle.name

abbrev pub levels_in : Option (Option Handle) → List Level
levels_in None = all_free
levels_in (Some None) = all_free
levels_in (Some (Some handle)) = handle.locks

-- the name of an open file
abbrev pub open_name : List (Option Handle) → ℕ → Option (List ℕ)
open_name handles fid = name_in (slice_get handles fid)

-- the levels of its owners
abbrev pub open_levels : List (Option Handle) → ℕ → List Level
open_levels handles fid = levels_in (slice_get handles fid)

-- each open file is there
abbrev pub HandlesFound : List (Option Handle) → List File → Type 0
HandlesFound handles files = (fid : ℕ) (name : List ℕ) → open_name handles fid ≡ Some name → IsThere files name

-- no name is open by two numbers
abbrev pub HandlesApart : List (Option Handle) → Type 0
HandlesApart handles = (fid other : ℕ) (name name' : List ℕ) → fid ≢ other → open_name handles fid ≡ Some name → open_name handles other ≡ Some name' → name ≢ name'

-- the number was not in use, is the least such, and has the name and no lock from now on
pub record TakesHandle (old new : List (Option Handle)) (name : List ℕ) (fid : ℕ) : Type 0 where
  pub unused : open_name old fid ≡ None
  pub least : (other : ℕ) → other < fid → IsSome (open_name old other)
  pub named : open_name new fid ≡ Some name
  pub others : (other : ℕ) → other ≢ fid → open_name new other ≡ open_name old other
  pub levels : (other : ℕ) → open_levels new other ≡ open_levels old other

-- the number is not in use any more
pub record DropsHandle (old new : List (Option Handle)) (fid : ℕ) : Type 0 where
  pub closed : open_name new fid ≡ None
  pub others : (other : ℕ) → other ≢ fid → open_name new other ≡ open_name old other
  pub levels : (other : ℕ) → other ≢ fid → open_levels new other ≡ open_levels old other

-- the same files are open, and the levels stay but at one
pub record LocksHandle (old new : List (Option Handle)) (fid : ℕ) : Type 0 where
  pub names : (other : ℕ) → open_name new other ≡ open_name old other
  pub levels : (other : ℕ) → other ≢ fid → open_levels new other ≡ open_levels old other
