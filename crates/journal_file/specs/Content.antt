-- Content: what a journal and a database file, as a stop may leave them, stand for. A file that is not there has no bytes.
-- After sqlite.org, "Atomic Commit In SQLite", section 4, "Rollback".
use Rattle.std.specs.Prelude.{◌≡◌, ◌⊎◌, ℕ, ◌-◌, ◌*◌, ◌<◌, Bool, false, List, [], ◌∷◌, ◌++◌, length, take, replicate, Option, Some, None}
use Rattle.vfs_model.specs.File.{Found, FileState, IsImage, Stays}
use Rattle.journal_format.specs.Undo.{Paged, Undo, laid, IsPlayed}
use Rattle.journal_format.specs.Journal.{Hot, Cold, Foreign, Undoes, hot}

-- the size in bytes that a playback cuts to
abbrev pub initial_size : Undo → ℕ
initial_size u = u.initial * u.page

-- a page with zeros in its last bytes
abbrev pub cleared : ℕ → List ℕ → List ℕ
cleared reserve bytes = take (length bytes - reserve) bytes ++ replicate reserve 0

abbrev pub all_cleared : ℕ → List Paged → List Paged
all_cleared reserve [] = []
all_cleared reserve (r ∷ rs) = (r.0, cleared reserve r.1) ∷ all_cleared reserve rs

-- the undo as it is written: with zeros in the bytes that a layer below keeps to itself
abbrev pub with_reserve : ℕ → Undo → Undo
with_reserve reserve u = record { page = u.page; initial = u.initial; originals = all_cleared reserve u.originals; super_name = u.super_name }

-- two files as found have the same bytes and marks
pub record SameContent (f g : Found) : Type 0 where
  pub size : length g.bytes ≡ length f.bytes
  pub each : (place : ℕ) → place < length f.bytes → Stays f g place

-- a place that was written is not bad
abbrev pub bad_unless : Option ℕ → Bool → Bool
bad_unless None bad = bad
bad_unless (Some byte) bad = false

-- a file as found with an undo done
pub record IsUndone (u : Undo) (file content : Found) : Type 0 where
  pub bytes : IsPlayed u file.bytes content.bytes
  pub bad : (place : ℕ) → place < initial_size u → content.bad place ≡ bad_unless (laid u.page u.originals place) (file.bad place)

-- what a database file stands for under a journal that is this
abbrev pub Shows : ℕ → Hot → Found → Found → Type 0
Shows reserve Cold file content = SameContent file content
Shows reserve Foreign file content = ⊥
Shows reserve (Undoes u) file content = IsUndone (with_reserve reserve u) file content

-- what the two files as found stand for, where these names exist
abbrev pub StandsFor : (List ℕ → Bool) → ℕ → Found → Found → Found → Type 0
StandsFor exists reserve journal db content = Shows reserve (hot exists journal.bytes) db content

-- whatever a stop leaves of the two files stands for this
abbrev pub AllStandFor : (List ℕ → Bool) → ℕ → FileState → FileState → Found → Type 0
AllStandFor exists reserve journal db content = (j d : Found) → IsImage journal j → IsImage db d → StandsFor exists reserve j d content

-- for the one or the other
abbrev pub AllStandForEither : (List ℕ → Bool) → ℕ → FileState → FileState → Found → Found → Type 0
AllStandForEither exists reserve journal db before after =
    (j d : Found) → IsImage journal j → IsImage db d → StandsFor exists reserve j d before ⊎ StandsFor exists reserve j d after

-- two files as found stand for all that some images of these two stood for
pub record HasStood (exists : List ℕ → Bool) (reserve : ℕ) (journal db : FileState) (j d : Found) : Type 0 where
  pub older_j : Found
  pub older_d : Found
  pub is_journal : IsImage journal older_j
  pub is_db : IsImage db older_d
  pub same : (content : Found) → StandsFor exists reserve older_j older_d content → StandsFor exists reserve j d content

-- whatever a stop leaves afterwards stands for all that something stood for which a stop could have left before
abbrev pub AllHaveStood : (List ℕ → Bool) → ℕ → FileState → FileState → FileState → FileState → Type 0
AllHaveStood exists reserve journal db journal' db' = (j d : Found) → IsImage journal' j → IsImage db' d → HasStood exists reserve journal db j d
