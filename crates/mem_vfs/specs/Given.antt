-- Files that a device is made with, and what it shows of them.
use Rattle.std.specs.Prelude.{◌≡◌, ℕ, true, false, List, length, Option, Some, None, find}
use Rattle.std.specs.Borrow.{Bor}
use Rattle.std.specs.Option.{option_map_or}
use Rattle.std.specs.Str.{bytes_eq}
use Rattle.vfs_model.specs.File.{Found, FileState, absent}
use Rattle.vfs_model.specs.Store.{Store}

-- a file with these bytes of which nothing is unsettled
abbrev pub settled : List ℕ → FileState
settled bytes = record {
  now = record { there = true; bytes = bytes; bad = λ _. false };
  unsynced = λ _. false;
  shortest = length bytes;
  longest = length bytes;
  sure = true;
  wild = false;
}

-- the given files by their names: of two files of one name the first
abbrev pub given_state : List (List ℕ × List ℕ) → List ℕ → FileState
given_state files name = option_map_or (λ file. settled file.1) (find (λ file. bytes_eq file.0 name) files) absent

-- the store has just these files
pub record Has (files : Store) (given : List (List ℕ × List ℕ)) : Type 0 where
  pub each : (name : List ℕ) → files name ≡ given_state given name

-- the bytes of a file, or none where it is not there
abbrev pub Shows : Found → Option (Bor (List ℕ)) → Type 0
Shows file None = file.there ≡ false
Shows file (Some bytes) = (file.there ≡ true) × (bytes.now ≡ file.bytes)
