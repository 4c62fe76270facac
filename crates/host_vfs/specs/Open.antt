-- Which files are open, by their numbers, and who locks them.
use Rattle.std.specs.Prelude.{◌≡◌, ◌≢◌, ℕ, ◌<◌, List, Option, Some, None, IsSome, slice_get}
use Rattle.vfs_model.specs.Lock.{all_free}
use Rattle.vfs_model.specs.declared.level.Level.{Level}
use Rattle.host_vfs.specs.declared.handles.Handle.{Handle}

-- the name and the levels of a number
abbrev pub name_in : Option (Option Handle) → Option (List ℕ)
name_in None = None
name_in (Some None) = None
name_in (Some (Some handle)) = Some handle.name

abbrev pub levels_in : Option (Option Handle) → List Level
levels_in None = all_free
levels_in (Some None) = all_free
levels_in (Some (Some handle)) = handle.locks

-- the name of an open file
abbrev pub open_name : List (Option Handle) → ℕ → Option (List ℕ)
open_name handles fid = name_in (slice_get handles fid)

-- the levels of its owners
abbrev pub open_levels : List (Option Handle) → ℕ → List Level
open_levels handles fid = levels_in (slice_get handles fid)

-- no name is open by two numbers
abbrev pub NamesApart : List (Option Handle) → Type 0
NamesApart handles = (fid other : ℕ) (name name' : List ℕ) → fid ≢ other → open_name handles fid ≡ Some name → open_name handles other ≡ Some name' → name ≢ name'

-- the number was not in use, is the least such, and has the name and no lock from now on
pub record TakesHandle (old new : List (Option Handle)) (name : List ℕ) (fid : ℕ) : Type 0 where
  pub unused : open_name old fid ≡ None
  pub least : (other : ℕ) → other < fid → IsSome (open_name old other)
  pub named : open_name new fid ≡ Some name
  pub others : (other : ℕ) → other ≢ fid → open_name new other ≡ open_name old other
  pub levels : (other : ℕ) → open_levels new other ≡ open_levels old other

-- the number is not in use any more
pub record DropsHandle (old new : List (Option Handle)) (fid : ℕ) : Type 0 where
  pub closed : open_name new fid ≡ None
  pub others : (other : ℕ) → other ≢ fid → open_name new other ≡ open_name old other
  pub levels : (other : ℕ) → other ≢ fid → open_levels new other ≡ open_levels old other

-- the same files are open, and the levels stay but at one
pub record LocksHandle (old new : List (Option Handle)) (fid : ℕ) : Type 0 where
  pub names : (other : ℕ) → open_name new other ≡ open_name old other
  pub levels : (other : ℕ) → other ≢ fid → open_levels new other ≡ open_levels old other
