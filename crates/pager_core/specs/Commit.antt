-- What a commit writes, why it is answered as it is, and what it leaves of the pager, the levels and the files. No journal is written,
-- so nothing is said of a stop in the midst of it.
-- After sqlite.org, "Database File Format", section 1.3.6, "File change counter", and "File Locking And Concurrency In SQLite Version 3".
use Rattle.std.specs.Prelude.{◌≡◌, ℕ, ◌+◌, ◌-◌, ◌*◌, ◌<◌, ◌≤◌, ◌&&◌, nat_lt, Bool, false, List, length, take, drop, slice_get, IsTrue, Some, None, Result, Ok, Err}
use Rattle.byte_base.specs.Count.{Rose}
use Rattle.db_format.specs.Header.{Says, KeepsOthers, ReadsBack}
use Rattle.db_format.specs.declared.header.Header.{Header}
use Rattle.page_list.specs.Pages.{Pages, HasPage, IsGood, word}
use Rattle.page_list.specs.Edits.{with_page}
use Rattle.page_draft.specs.Draft.{read_pages, IsClean}
use Rattle.vfs_model.specs.File.{FileState, HasOneContent}
use Rattle.vfs_model.specs.Store.{OthersStay}
use Rattle.vfs_model.specs.Lock.{IsUnhindered, level_at, rank, Grants, Refuses, Lowers}
use Rattle.vfs_model.specs.declared.level.Level.{Level}
use Rattle.vfs_model.specs.declared.level.Level.TheVariants.{Free, Exclusive}
use Rattle.vfs_model.specs.declared.layer.Layer.{Layer}
use Rattle.vfs_trait.specs.State.{StackState, Steady, LevelsStay, OpenStays, name_at}
use Rattle.vfs_trait.specs.Calls.{FilesLeft, LocksAt, MayFill, checked}
use Rattle.pager_core.specs.File.{Shows, page_in}
use Rattle.pager_core.specs.Seen.{seen, is_changed, SameFile}
use Rattle.pager_core.specs.Leave.{DropsDraft}
use Rattle.pager_core.specs.declared.pager.Pager.{Pager}
use Rattle.pager_core.specs.declared.fault.PagerFault.{PagerFault}
use Rattle.pager_core.specs.declared.fault.PagerFault.TheVariants.{Failed, Memory, MemoryAfter, Busy, Worn, Bad}

-- no layer of the stack keeps checksums, and none answers Full
pub record IsPlain (layers : List Layer) : Type 0 where
  pub unchecked : checked layers ≡ None
  pub unlimited : ¬ (MayFill layers)

-- there is something to write: the connection has a draft with a change, and sees a page at least
abbrev pub commits : Pager → ℕ → Bool
commits p who = is_changed p who && nat_lt 0 (seen p who).size

-- The header

-- the greatest value of the change counter
abbrev pub last_counter : ℕ
last_counter = 4294967295

-- page 1 does not fail its checksum, and its change counter can rise
pub record MayCount (pages : Pages) : Type 0 where
  pub good : IsGood pages 1
  pub unworn : word pages 1 24 < last_counter

-- the header that is written: the counter is one more, the size is that of the pages, and the rest as page 1 has it
abbrev pub next_header : ℕ → Pages → Header
next_header page_size pages = record {
  page = page_size;
  reserved = page_size - pages.usable;
  counter = word pages 1 24 + 1;
  size = pages.size;
  first_trunk = word pages 1 32;
  free_pages = word pages 1 36;
  cookie = word pages 1 40;
}

-- a page 1 with that header, and all else as it was
pub record IsNextFirst (page_size : ℕ) (pages : Pages) (first : List ℕ) : Type 0 where
  pub says : Says (next_header page_size pages) first
  pub keeps : KeepsOthers (pages.bytes 1) first
  pub reads_back : ReadsBack (next_header page_size pages) (pages.bytes 1) first

-- What stands after a commit

-- the pages are those that the connection saw, with the next header on page 1
pub record IsCommitted (page_size : ℕ) (old new : Pages) : Type 0 where
  pub first : IsNextFirst page_size old (new.bytes 1)
  pub pages : new ≡ with_page 1 (new.bytes 1) old

-- a file has just these pages
pub record IsFileOf (page_size : ℕ) (bytes : List ℕ) (pages : Pages) : Type 0 where
  pub long : length bytes ≡ pages.size * page_size
  pub shows : Shows page_size bytes pages

-- a stop that leaves a file leaves its content as it is now, unless it is wild
abbrev pub IsSynced : FileState → Type 0
IsSynced file = file.wild ≡ false → HasOneContent file

-- the pager is that of the same file, with pages of the same size
pub record SamePager (old new : Pager) : Type 0 where
  pub named : new.name ≡ old.name
  pub numbered : new.fid ≡ old.fid
  pub sized : new.pages.page_size ≡ old.pages.page_size
  pub used : new.pages.usable ≡ old.pages.usable

-- what was committed has become what was read, and nobody has a draft
pub record HasCommitted (old new : Pager) (who : ℕ) : Type 0 where
  pub same : SamePager old new
  pub pages : IsCommitted old.pages.page_size (seen old who) (read_pages new.pages)
  pub owner : new.owner ≡ None
  pub clean : IsClean new.pages

-- By cases of the answer

-- why a commit is answered as it is
abbrev pub CommitCaused : Pages → StackState → StackState → Result Unit PagerFault → Type 0
CommitCaused pages old new (Ok _) = MayCount pages
CommitCaused pages old new (Err Failed) = MayCount pages × Rose old.faults new.faults
CommitCaused pages old new (Err Memory) = MayCount pages
CommitCaused pages old new (Err MemoryAfter) = MayCount pages
CommitCaused pages old new (Err Busy) = MayCount pages
CommitCaused pages old new (Err Worn) = IsGood pages 1 × (word pages 1 24 ≡ last_counter)
CommitCaused pages old new (Err (Bad page kept found)) = (page ≡ 1) × (pages.bad 1 ≡ Some (kept, found))

-- why the next page 1 is not made
abbrev pub FirstCaused : {T : Type 0} → Pages → Result T PagerFault → Type 0
FirstCaused pages (Ok _) = MayCount pages
FirstCaused pages (Err Failed) = ⊥
FirstCaused pages (Err Memory) = MayCount pages
FirstCaused pages (Err MemoryAfter) = ⊥
FirstCaused pages (Err Busy) = ⊥
FirstCaused pages (Err Worn) = IsGood pages 1 × (word pages 1 24 ≡ last_counter)
FirstCaused pages (Err (Bad page kept found)) = (page ≡ 1) × (pages.bad 1 ≡ Some (kept, found))

-- what it leaves of the pager: after a failure from the first write on, nothing is said of its pages
abbrev pub CommitLeaves : Pager → Pager → ℕ → Result Unit PagerFault → Type 0
CommitLeaves old new who (Ok _) = HasCommitted old new who
CommitLeaves old new who (Err Failed) = SamePager old new
CommitLeaves old new who (Err Memory) = new ≡ old
CommitLeaves old new who (Err MemoryAfter) = SamePager old new
CommitLeaves old new who (Err Busy) = new ≡ old
CommitLeaves old new who (Err Worn) = new ≡ old
CommitLeaves old new who (Err (Bad page kept found)) = new ≡ old

-- of the levels: Exclusive is asked. Who has it falls to Free when all is written, and keeps it after a failure
pub record ReturnsAlone (old new : List Level) (who : ℕ) : Type 0 where
  pub alone : rank (level_at old who) < 4 → IsUnhindered old who Exclusive
  pub lowered : Lowers old new who Free

abbrev pub CommitLevels : ℕ → Result Unit PagerFault → List Level → List Level → Type 0
CommitLevels who (Ok _) old new = ReturnsAlone old new who
CommitLevels who (Err Failed) old new = Grants old new who Exclusive
CommitLevels who (Err Memory) old new = new ≡ old
CommitLevels who (Err MemoryAfter) old new = Grants old new who Exclusive
CommitLevels who (Err Busy) old new = (holder : ℕ) × (held : Level) × Refuses old new who Exclusive holder held
CommitLevels who (Err Worn) old new = new ≡ old
CommitLevels who (Err (Bad page kept found)) old new = new ≡ old

-- of the files: where content is told, all others stay
abbrev pub OthersLeft : StackState → StackState → ℕ → Type 0
OthersLeft old new fid = IsTrue old.tells → OthersStay old.layers old.files new.files (name_at old fid)

abbrev pub CommitFiles : StackState → StackState → ℕ → Result Unit PagerFault → Type 0
CommitFiles old new fid (Ok _) = OthersLeft old new fid
CommitFiles old new fid (Err Failed) = OthersLeft old new fid
CommitFiles old new fid (Err Memory) = FilesLeft old new
CommitFiles old new fid (Err MemoryAfter) = OthersLeft old new fid
CommitFiles old new fid (Err Busy) = FilesLeft old new
CommitFiles old new fid (Err Worn) = FilesLeft old new
CommitFiles old new fid (Err (Bad page kept found)) = FilesLeft old new

-- where there is nothing to write, it is done: the draft is gone, the level falls to Free, and no file is touched
pub record EndsIdle (p p' : Pager) (old new : StackState) (who : ℕ) (result : Result Unit PagerFault) : Type 0 where
  pub done : result ≡ Ok tt
  pub same : SameFile p p'
  pub draft : DropsDraft p p' who
  pub levels : LocksAt old new p.fid.0 (λ before after. Lowers before after who Free)
  pub files : FilesLeft old new

-- where there is
pub record EndsCommit (p p' : Pager) (old new : StackState) (who : ℕ) (result : Result Unit PagerFault) : Type 0 where
  pub cause : CommitCaused (seen p who) old new result
  pub left : CommitLeaves p p' who result
  pub levels : LocksAt old new p.fid.0 (CommitLevels who result)
  pub files : CommitFiles old new p.fid.0 result

-- The steps, once Exclusive is held

-- what each of them keeps of the stack: all but the content of one file
pub record KeepsBut (old new : StackState) (fid : ℕ) : Type 0 where
  pub steady : Steady old new
  pub levels : LevelsStay old new
  pub opens : OpenStays old new
  pub others : OthersLeft old new fid

-- why one fails
abbrev pub StepFails : StackState → StackState → PagerFault → Type 0
StepFails old new Failed = Rose old.faults new.faults
StepFails old new Memory = ⊥
StepFails old new MemoryAfter = Unit {0}
StepFails old new Busy = ⊥
StepFails old new Worn = ⊥
StepFails old new (Bad page kept found) = ⊥

-- the first pages are in place, each that does not fail its checksum, and the file is no shorter than it was
pub record HasLaid (page_size count : ℕ) (pages : Pages) (old new : List ℕ) : Type 0 where
  pub no_shorter : length old ≤ length new
  pub long : count * page_size ≤ length new
  pub each : (n : ℕ) → HasPage pages n → n ≤ count → IsGood pages n → pages.bytes n ≡ page_in page_size new n

-- a page is in place, if it does not fail its checksum, and so is each before it that was
pub record HasLaidPage (page_size number : ℕ) (pages : Pages) (old new : List ℕ) : Type 0 where
  pub no_shorter : length old ≤ length new
  pub long : number * page_size ≤ length new
  pub page : IsGood pages number → pages.bytes number ≡ page_in page_size new number
  pub before : (n : ℕ) → 1 ≤ n → n < number → page_in page_size new n ≡ page_in page_size old n

-- bytes stand at a place of a file, and what was before them stays
pub record HasWritten (at : ℕ) (bytes old new : List ℕ) : Type 0 where
  pub no_shorter : length old ≤ length new
  pub long : at + length bytes ≤ length new
  pub inside : take (length bytes) (drop at new) ≡ bytes
  pub before : (place : ℕ) → place < at → slice_get new place ≡ slice_get old place
