-- A stack below a checksum layer, as it is seen above that layer.
use Rattle.std.specs.Prelude.{◌≡◌, ℕ, zero, suc, ◌+◌, ◌*◌, ◌/◌, ◌%◌, ◌≤◌, Bool, true, false, ◌||◌, nat_le, nat_lt, if◌then◌else◌, List, ◌∷◌, Option, Some, None}
use Rattle.vfs_model.specs.File.{Found, FileState}
use Rattle.vfs_model.specs.Store.{Store}
use Rattle.vfs_model.specs.Name.{kind_of}
use Rattle.vfs_model.specs.Sums.{fails, without_sums}
use Rattle.vfs_model.specs.declared.name.Kind.{Kind}
use Rattle.vfs_model.specs.declared.name.Kind.TheVariants.{Main, Journal, Super}
use Rattle.vfs_model.specs.declared.layer.Layer.{Layer}
use Rattle.vfs_model.specs.declared.layer.Layer.TheVariants.{Cksum as CksumLayer}
use Rattle.vfs_trait.specs.State.{StackState}
use Rattle.vfs_trait.specs.Calls.{checked}

-- a layer that is on has a page size, and checks files of one kind alone
abbrev pub own_size : Option ℕ → Kind → Option ℕ
own_size None kind = None
own_size (Some page) Main = Some page
own_size (Some page) Journal = None
own_size (Some page) Super = None

-- a file as it is found, in pages that keep checksums, or not
abbrev pub bytes_over : Option ℕ → List ℕ → List ℕ
bytes_over None bytes = bytes
bytes_over (Some page) bytes = without_sums page 0 bytes

abbrev pub bad_over : Option ℕ → Found → (ℕ → Bool)
bad_over None f = f.bad
bad_over (Some page) f = λ place. fails page f.bytes (place / page)

abbrev pub found_over : Option ℕ → Found → Found
found_over own f = record { there = f.there; bytes = bytes_over own f.bytes; bad = bad_over own f }

-- one of so many places from one on is marked
abbrev pub some_from : (ℕ → Bool) → ℕ → ℕ → Bool
some_from marks from zero = false
some_from marks from (suc n) = marks from || some_from marks (suc from) n

-- What a stop may change of a page: where no stop leaves it whole, it is bad whatever it holds, and a place of it may
-- change alone; where every stop leaves it whole, each place of it may change what its sums say of all; and where some do,
-- whether it is bad is not settled
abbrev pub page_unsynced : ℕ → FileState → ℕ → Bool
page_unsynced page s place =
    if nat_lt s.longest (page * (place / page + 1)) then s.unsynced place
    else (if nat_le (page * (place / page + 1)) s.shortest then some_from s.unsynced (page * (place / page)) page else true)

abbrev pub unsynced_over : Option ℕ → FileState → (ℕ → Bool)
unsynced_over None s = s.unsynced
unsynced_over (Some page) s = page_unsynced page s

abbrev pub file_over : Option ℕ → FileState → FileState
file_over own s = record s { now = found_over own s.now; unsynced = unsynced_over own s }

abbrev pub files_over : Option ℕ → Store → Store
files_over size files name = file_over (own_size size (kind_of name)) (files name)

-- a layer that is on stands on top of the layers; one that is off is not seen
abbrev pub layers_over : Option ℕ → List Layer → List Layer
layers_over None layers = layers
layers_over (Some page) layers = CksumLayer page ∷ layers

abbrev pub over : Option ℕ → StackState → StackState
over size s = record s { layers = layers_over size s.layers; files = files_over size s.files }

-- a page size that a layer may have: pages of whole pairs of words, and no last page that ends behind 2 ^ 32
pub record IsPage (page : ℕ) : Type 0 where
  pub least : 512 ≤ page
  pub pairs : page % 8 ≡ 0
  pub divides : 4294967296 % page ≡ 0

-- a layer that is on has such a size
pub record IsSized (size : Option ℕ) : Type 0 where
  pub each : (page : ℕ) → size ≡ Some page → IsPage page

-- below a layer that is on there is no other
pub record IsUnchecked (size : Option ℕ) (layers : List Layer) : Type 0 where
  pub each : (page : ℕ) → size ≡ Some page → checked layers ≡ None

-- whether a file is a database
abbrev pub is_main : Kind → Bool
is_main Main = true
is_main Journal = false
is_main Super = false
