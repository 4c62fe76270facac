-- A commit of pages that lie within the file: what it needs, and what its steps leave.
-- After sqlite.org, "Atomic Commit In SQLite", section 3.
use Rattle.std.specs.Prelude.{◌≡◌, ◌⊎◌, ℕ, Bool, List, [], ◌∷◌, None, IsTrue}
use Rattle.vfs_model.specs.File.{FileState, IsSettled}
use Rattle.vfs_model.specs.Effect.{NoLooser}
use Rattle.journal_format.specs.Undo.{Paged, Undo, HasPage}
use Rattle.journal_format.specs.Journal.{Undoes, unless_missing}
use Rattle.journal_file.specs.Content.{with_reserve, IsUndone}
use Rattle.journal_file.specs.Steps.{IsCold, HasButFirst, IsKept}

-- each of these pages is among the originals
abbrev pub AreAmong : List Paged → List Paged → Type 0
AreAmong originals [] = Unit {0}
AreAmong originals (r ∷ rs) = HasPage originals r.0 × AreAmong originals rs

-- the pages that a commit writes, over the file that its journal undoes
abbrev pub changed : Undo → List Paged → Undo
changed u pages = record { page = u.page; initial = u.initial; originals = pages; super_name = None }

-- a settled file that is there, of which a journal has the pages as they are: with this undone it is the same
pub record IsReady (reserve : ℕ) (u : Undo) (db : FileState) : Type 0 where
  pub settled : IsSettled db
  pub there : IsTrue db.now.there
  pub same : IsUndone (with_reserve reserve u) db.now db.now

-- where these names exist, the journal of this counts: the super-journal that it names is there
abbrev pub Counts : (List ℕ → Bool) → Undo → Type 0
Counts exists u = unless_missing exists u.super_name (Undoes u) ≡ Undoes u

-- a journal that is not hot in any image, or that is there but for its first byte
abbrev pub HasBegun : List ℕ → FileState → Type 0
HasBegun bytes journal = IsCold journal ⊎ HasButFirst bytes journal

-- the pages are written under a journal that stays
pub record IsWriting (u : Undo) (journal db journal' db' : FileState) : Type 0 where
  pub stays : NoLooser journal journal'
  pub kept : IsKept u db db'

-- all of them are written and settled, and nothing but the first byte of the journal has changed
pub record IsClosingOver (u : Undo) (journal db journal' db' : FileState) : Type 0 where
  pub but : HasButFirst journal.now.bytes journal'
  pub kept : IsKept u db db'
  pub settled : IsSettled db'
  pub done : IsUndone u db.now db'.now

abbrev pub HasChanged : Undo → FileState → FileState → FileState → FileState → Type 0
HasChanged u journal db journal' db' = IsWriting u journal db journal' db' ⊎ IsClosingOver u journal db journal' db'
