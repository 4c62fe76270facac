-- Files that are given as a list, and what is seen of one.
use Rattle.std.specs.Prelude.{◌≡◌, ℕ, true, List, [], ◌∷◌, if◌then◌else◌}
use Rattle.std.specs.Str.{bytes_eq}
use Rattle.vfs_model.specs.File.{Found, nothing}
use Rattle.vfs_model.specs.Store.{Files}
use Rattle.vfs_model.specs.View.{plain}
use Rattle.vfs_model.specs.declared.name.Kind.{Kind}
use Rattle.vfs_model.specs.declared.name.Kind.TheVariants.{Main, Journal, Super}
use Rattle.ref_stack.specs.declared.files.Shown.{Shown}

-- the files by their names: of two of one name the first, and others are not there
abbrev pub files_of : List (List ℕ × List ℕ) → Files
files_of [] name = nothing
files_of (file ∷ more) name = if bytes_eq file.0 name then plain true file.1 else files_of more name

-- the file is there or not, and has these bytes
pub record Shows (f : Found) (s : Shown) : Type 0 where
  pub there : s.there ≡ f.there
  pub bytes : s.bytes ≡ f.bytes

-- other bytes where the name is that of a database
abbrev pub bytes_of_main : Kind → List ℕ → List ℕ → List ℕ
bytes_of_main Main other own = other
bytes_of_main Journal other own = own
bytes_of_main Super other own = own

-- what is seen is as before, but for other bytes of a database
pub record IsOfMain (kind : Kind) (other : List ℕ) (below above : Shown) : Type 0 where
  pub there : above.there ≡ below.there
  pub bytes : above.bytes ≡ bytes_of_main kind other below.bytes
