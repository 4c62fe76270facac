-- What the layers of a stack show of the files below them, by whole files.
-- After sqlite.org, "The SQLite OS Interface or VFS", section 2.3, "VFS Shims", "The Checksum VFS Shim", and the header
-- comments of test_multiplex.c and appendvfs.c.
use Rattle.std.specs.Prelude.{◌≡◌, ℕ, zero, suc, ◌-◌, ◌/◌, ◌<◌, Bool, false, nat_eq, nat_lt, if◌then◌else◌, List, [], ◌∷◌, ◌++◌, length, take, replicate, decimal}
use Rattle.vfs_model.specs.File.{Found}
use Rattle.vfs_model.specs.Store.{Files}
use Rattle.vfs_model.specs.Name.{kind_of}
use Rattle.vfs_model.specs.Mark.{placed, shown_at}
use Rattle.vfs_model.specs.Sums.{fails, without_sums}
use Rattle.vfs_model.specs.declared.name.Kind.{Kind}
use Rattle.vfs_model.specs.declared.name.Kind.TheVariants.{Main, Journal, Super}
use Rattle.vfs_model.specs.declared.layer.Layer.{Layer}
use Rattle.vfs_model.specs.declared.layer.Layer.TheVariants.{Trace, Cksum, Append, Mux, Quota}

-- the number of a chunk as it stands in its name: with zeros in front, up to three digits
abbrev pub chunk_digits : ℕ → List ℕ
chunk_digits number = replicate (3 - length (decimal number)) 48 ++ decimal number

-- the name of the file that holds a chunk: that of the whole file for the first
abbrev pub chunk_name : List ℕ → ℕ → List ℕ
chunk_name name number = if nat_eq number 0 then name else name ++ chunk_digits number

-- a chunk's number has five digits at most
unfoldable pub most_chunks : ℕ
most_chunks = 100000

-- what a chunk holds and, where it is full, what stands behind it. Of a longer one only so many bytes count
abbrev pub chunk_then : ℕ → List ℕ → List ℕ → List ℕ
chunk_then chunk bytes rest = if nat_lt (length bytes) chunk then bytes else take chunk bytes ++ rest

-- The bytes of so many chunks at most, from one on: up to and with the first that is shorter than a chunk is, or the last
-- before one that is not there.
abbrev pub bytes_from : ℕ → ℕ → Files → List ℕ → ℕ → List ℕ
bytes_from zero chunk files name number = []
bytes_from (suc left) chunk files name number =
    if (files (chunk_name name number)).there then chunk_then chunk (files (chunk_name name number)).bytes (bytes_from left chunk files name (suc number)) else []

-- a file of this content without a bad place
abbrev pub plain : Bool → List ℕ → Found
plain there bytes = record { there = there; bytes = bytes; bad = λ _. false }

-- a file kept in chunks, where its first one is there
abbrev pub in_chunks : ℕ → Files → List ℕ → Found
in_chunks chunk files name = plain (files name).there (bytes_from most_chunks chunk files name 0)

-- a file with a database behind other content, as that database
abbrev pub appended : Found → Found
appended f = plain f.there (shown_at (placed f.bytes) f.bytes)

-- a file whose pages keep checksums: each keeps its sums to itself, and is bad where it fails
abbrev pub summed : ℕ → Found → Found
summed page f = record { there = f.there; bytes = without_sums page 0 f.bytes; bad = λ place. fails page f.bytes (place / page) }

-- a layer that changes only what databases show
abbrev pub of_main : Kind → Found → Found → Found
of_main Main shown below = shown
of_main Journal shown below = below
of_main Super shown below = below

-- what one layer shows
abbrev pub view : Layer → Files → Files
view Trace files name = files name
view (Cksum page) files name = of_main (kind_of name) (summed page (files name)) (files name)
view Append files name = of_main (kind_of name) (appended (files name)) (files name)
view (Mux chunk) files name = in_chunks chunk files name
view (Quota groups) files name = files name

-- what a stack of layers shows, the top one first
abbrev pub through : List Layer → Files → Files
through [] files = files
through (layer ∷ below) files = view layer (through below files)

-- a name of which a layer's view of a name makes use: the name, or those of its chunks
pub record IsChunkOf (name other : List ℕ) : Type 0 where
  pub number : ℕ
  pub few : number < most_chunks
  pub named : other ≡ chunk_name name number

abbrev pub ViewedFrom : Layer → List ℕ → List ℕ → Type 0
ViewedFrom Trace name other = other ≡ name
ViewedFrom (Cksum page) name other = other ≡ name
ViewedFrom Append name other = other ≡ name
ViewedFrom (Mux chunk) name other = IsChunkOf name other
ViewedFrom (Quota groups) name other = other ≡ name
