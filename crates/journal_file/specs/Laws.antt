-- What follows from the steps, for callers that commit and recover.
use Rattle.std.specs.Prelude.{◌≡◌, ℕ, ◌≤◌, Bool, false, List, IsTrue}
use Rattle.vfs_model.specs.File.{Found, FileState, IsImage, IsOrderly, IsSettled}
use Rattle.vfs_model.specs.Effect.{NoLooser}
use Rattle.journal_format.specs.Undo.{Undo}
use Rattle.journal_format.specs.Journal.{Undoes, hot}
use Rattle.journal_file.specs.Content.{initial_size, with_reserve, SameContent, IsUndone, Shows, AllStandFor, AllStandForEither, AllHaveStood}
use Rattle.journal_file.specs.Steps.{IsShut, IsCold, HasButFirst, IsKept, with_first}

-- a journal that is shut is cold
abbrev pub ShutIsCold : Type 0
ShutIsCold = (s : FileState) → IsShut s → IsCold s

-- under a cold journal a settled file stands for itself
abbrev pub ColdStands : Type 0
ColdStands = (exists : List ℕ → Bool) (reserve : ℕ) (journal db : FileState) → IsCold journal → IsSettled db → IsOrderly db → AllStandFor exists reserve journal db db.now

-- a journal whose first byte alone is unsettled: by its gate
abbrev pub GateStands : Type 0
GateStands = (exists : List ℕ → Bool) (reserve : ℕ) (journal db : FileState) (bytes : List ℕ) (opened closed : Found) → HasButFirst bytes journal →
    ((d : Found) → IsImage db d → Shows reserve (hot exists (with_first 217 bytes)) d opened) → ((d : Found) → IsImage db d → SameContent d closed) →
    AllStandForEither exists reserve journal db opened closed

-- an undo done to a settled file gives the same done to each image of what was kept of it
abbrev pub KeptImage : Type 0
KeptImage = (u : Undo) (old new : FileState) (i content : Found) → IsSettled old → IsTrue old.now.there → IsKept u old new → IsUndone u old.now content → IsImage new i → IsUndone u i content

-- under a settled journal that is hot, each image of what was kept stands for what the settled file did
abbrev pub KeptStands : Type 0
KeptStands = (exists : List ℕ → Bool) (reserve : ℕ) (u : Undo) (journal old new : FileState) (content : Found) → IsSettled journal → IsTrue journal.now.there →
    hot exists journal.now.bytes ≡ Undoes u → IsSettled old → IsTrue old.now.there → IsKept (with_reserve reserve u) old new → IsUndone (with_reserve reserve u) old.now content →
    AllStandFor exists reserve journal new content

-- what is kept twice is kept, and what is no looser is kept
abbrev pub KeptTwice : Type 0
KeptTwice = (u : Undo) (a b c : FileState) → IsKept u a b → IsKept u b c → IsKept u a c

abbrev pub StaysKept : Type 0
StaysKept = (u : Undo) (old new : FileState) → NoLooser old new → IsKept u old new

-- what has stood twice has stood, and files that are no looser have
abbrev pub StoodTwice : Type 0
StoodTwice = (exists : List ℕ → Bool) (reserve : ℕ) (j d j' d' j'' d'' : FileState) →
    AllHaveStood exists reserve j d j' d' → AllHaveStood exists reserve j' d' j'' d'' → AllHaveStood exists reserve j d j'' d''

abbrev pub StaysStood : Type 0
StaysStood = (exists : List ℕ → Bool) (reserve : ℕ) (j d j' d' : FileState) → NoLooser j j' → NoLooser d d' → AllHaveStood exists reserve j d j' d'

-- under a settled journal that is hot and stays, each image of what was kept has stood
abbrev pub PlayExit : Type 0
PlayExit = (exists : List ℕ → Bool) (reserve : ℕ) (u : Undo) (j j' d d' : FileState) → IsSettled j → IsOrderly j → IsTrue j.now.there → hot exists j.now.bytes ≡ Undoes u →
    IsTrue d.now.there → IsTrue d.sure → d.wild ≡ false → IsOrderly d → initial_size u ≤ d.shortest → NoLooser j j' → IsKept (with_reserve reserve u) d d' → AllHaveStood exists reserve j d j' d'
