-- How the pages of a database are read from its file, and when they are read anew.
use Rattle.std.specs.Prelude.{◌≡◌, ◌⊎◌, ℕ, ◌+◌, ◌-◌, ◌*◌, ◌≤◌, ◌<◌, false, List, length, IsTrue, Option, Some, None, IsSome, Result, Ok, Err}
use Rattle.byte_base.specs.Count.{Rose}
use Rattle.byte_base.specs.Numbers.{number_at}
use Rattle.vfs_model.specs.Effect.{NoLooser}
use Rattle.vfs_model.specs.Lock.{Grants, Refuses}
use Rattle.vfs_model.specs.declared.level.Level.{Level}
use Rattle.vfs_model.specs.declared.level.Level.TheVariants.{Shared}
use Rattle.vfs_trait.specs.State.{StackState, Steady, LevelsStay, OpenStays, Stands, name_at}
use Rattle.vfs_trait.specs.Calls.{Leaves, MeetsIn, checked}
use Rattle.vfs_trait.specs.declared.fault.VfsFault.{VfsFault}
use Rattle.vfs_trait.specs.declared.fault.VfsFault.TheVariants as call
use Rattle.page_list.specs.Pages.{Pages, HasPage, IsGood}
use Rattle.page_draft.specs.Slots.{Shown}
use Rattle.page_draft.specs.Draft.{read_pages, IsClean}
use Rattle.pager_core.specs.File.{page_in, Shows}
use Rattle.pager_core.specs.Leave.{counter_of}
use Rattle.pager_core.specs.Open.{IsUnread}
use Rattle.pager_core.specs.declared.fault.PagerFault.{PagerFault}
use Rattle.pager_core.specs.declared.fault.PagerFault.TheVariants.{Failed, Memory, MemoryAfter, Busy, Worn, Bad}
use Rattle.pager_core.specs.declared.pager.Pager.{Pager}

-- a call looks at the file of a number, and changes nothing
pub record LooksAt (old new : StackState) (fid : ℕ) : Type 0 where
  pub steady : Steady old new
  pub levels : LevelsStay old new
  pub opens : OpenStays old new
  pub leaves : Leaves old new (name_at old fid) NoLooser

-- a read of so many bytes meets a bad page with these sums, in a stack that shows the file as it is here
pub record ReadMeets (s : StackState) (name : List ℕ) (off len kept found : ℕ) : Type 0 where
  pub at : StackState
  pub page : ℕ
  pub steady : Steady s at
  pub stands : Stands at
  pub same : IsTrue s.tells → (at.files name).now ≡ (s.files name).now
  pub meets : MeetsIn at name off len page kept found (checked at.layers)

-- of so many bytes none lies on a bad page
pub record AreGood (s : StackState) (name : List ℕ) (off len : ℕ) : Type 0 where
  pub each : IsTrue s.tells → (place : ℕ) → off ≤ place → place < off + len → (s.files name).now.bad place ≡ false

-- a page is bad with these sums just where a read of it says so
abbrev pub IsMarked : StackState → List ℕ → ℕ → ℕ → Option (ℕ × ℕ) → Type 0
IsMarked s name page_size n None = AreGood s name ((n - 1) * page_size) page_size
IsMarked s name page_size n (Some sums) = ReadMeets s name ((n - 1) * page_size) page_size sums.0 sums.1

-- a page is one of the file
pub record IsPageOf (s : StackState) (name : List ℕ) (page_size n : ℕ) (page : Shown) : Type 0 where
  pub bytes : IsTrue s.tells → n * page_size ≤ length (s.files name).now.bytes → page.bad ≡ None → page.bytes ≡ page_in page_size (s.files name).now.bytes n
  pub mark : IsMarked s name page_size n page.bad

-- and so is each of them
pub record ArePagesOf (s : StackState) (name : List ℕ) (page_size : ℕ) (pages : Pages) : Type 0 where
  pub each : (n : ℕ) → HasPage pages n → IsPageOf s name page_size n (record { bytes = pages.bytes n; bad = pages.bad n })

-- the pages are those of the file, each with its mark
pub record ReadFrom (s : StackState) (name : List ℕ) (page_size : ℕ) (pages : Pages) : Type 0 where
  pub shows : IsTrue s.tells → Shows page_size (s.files name).now.bytes pages
  pub marks : (n : ℕ) → HasPage pages n → IsMarked s name page_size n (pages.bad n)

-- they were read now, and page 1 is good where there is one
pub record IsAnew (s : StackState) (p : Pager) : Type 0 where
  pub from : ReadFrom s p.name p.pages.page_size (read_pages p.pages)
  pub first : HasPage (read_pages p.pages) 1 → IsGood (read_pages p.pages) 1

-- the counter at 24 of the file, which is read, is that of the pages, of which there is one
pub record IsCurrent (s : StackState) (p : Pager) : Type 0 where
  pub some : 1 ≤ (read_pages p.pages).size
  pub counter : IsTrue s.tells → number_at 4 (s.files p.name).now.bytes 24 ≡ counter_of (read_pages p.pages)
  pub good : AreGood s p.name 24 4

-- the same file, with pages of the same sizes, and the draft of the same connection
pub record SameDatabase (old new : Pager) : Type 0 where
  pub named : new.name ≡ old.name
  pub numbered : new.fid ≡ old.fid
  pub sized : new.pages.page_size ≡ old.pages.page_size
  pub used : new.pages.usable ≡ old.pages.usable
  pub owned : new.owner ≡ old.owner

-- a read of page 1, or of some bytes of it, says that it is bad
pub record FirstMeets (s : StackState) (name : List ℕ) (page_size kept found : ℕ) : Type 0 where
  pub off : ℕ
  pub len : ℕ
  pub within : off + len ≤ page_size
  pub meets : ReadMeets s name off len kept found

-- why a read of page 1 is refused, by the fault of the stack. Busy and Full are never answered in one
abbrev pub first_fault : VfsFault → PagerFault
first_fault call.Failed = Failed
first_fault call.Memory = Memory
first_fault (call.BadPage page kept found) = Bad 1 kept found
first_fault (call.Busy holder level) = Memory
first_fault (call.Full total limit) = Memory

-- why pages are not read. Want of memory needs no cause; Busy has its cause in the lock rule
abbrev pub ReadCause : {T : Type 0} → StackState → StackState → List ℕ → ℕ → Result T PagerFault → Type 0
ReadCause old new name page_size (Ok _) = Unit {0}
ReadCause old new name page_size (Err Failed) = Rose old.faults new.faults
ReadCause old new name page_size (Err Memory) = Unit {0}
ReadCause old new name page_size (Err MemoryAfter) = ⊥
ReadCause old new name page_size (Err Busy) = ⊥
ReadCause old new name page_size (Err Worn) = ⊥
ReadCause old new name page_size (Err (Bad page kept found)) = (page ≡ 1) × FirstMeets old name page_size kept found

abbrev pub BeginCause : StackState → StackState → List ℕ → ℕ → Result Unit PagerFault → Type 0
BeginCause old new name page_size (Err Busy) = Unit {0}
BeginCause old new name page_size (Ok value) = Unit {0}
BeginCause old new name page_size (Err Failed) = Rose old.faults new.faults
BeginCause old new name page_size (Err Memory) = Unit {0}
BeginCause old new name page_size (Err MemoryAfter) = ⊥
BeginCause old new name page_size (Err Worn) = ⊥
BeginCause old new name page_size (Err (Bad page kept found)) = (page ≡ 1) × FirstMeets old name page_size kept found

-- the pages were read anew, or are those that were read before, since the file still has their counter; after a fault none is read
abbrev pub Refreshes : StackState → Pager → Pager → Result Unit PagerFault → Type 0
Refreshes s old new (Ok _) = (IsAnew s new × IsClean new.pages) ⊎ (IsCurrent s old × (new ≡ old))
Refreshes s old new (Err fault) = IsUnread new.pages

-- the same, where somebody has a draft too, and then they stay
abbrev pub BeginsRead : StackState → Pager → Pager → Result Unit PagerFault → Type 0
BeginsRead s old new (Ok _) = (IsAnew s new × IsClean new.pages × (old.owner ≡ None)) ⊎ ((new ≡ old) × (IsSome old.owner ⊎ IsCurrent s old))
BeginsRead s old new (Err Busy) = new ≡ old
BeginsRead s old new (Err Failed) = IsUnread new.pages
BeginsRead s old new (Err Memory) = IsUnread new.pages
BeginsRead s old new (Err MemoryAfter) = IsUnread new.pages
BeginsRead s old new (Err Worn) = IsUnread new.pages
BeginsRead s old new (Err (Bad page kept found)) = IsUnread new.pages

-- Shared is refused by the lock rule where the answer is Busy, and else granted
abbrev pub AsksShared : ℕ → Result Unit PagerFault → List Level → List Level → Type 0
AsksShared who (Err Busy) old new = (holder : ℕ) × (held : Level) × Refuses old new who Shared holder held
AsksShared who (Ok _) old new = Grants old new who Shared
AsksShared who (Err Failed) old new = Grants old new who Shared
AsksShared who (Err Memory) old new = Grants old new who Shared
AsksShared who (Err MemoryAfter) old new = Grants old new who Shared
AsksShared who (Err Worn) old new = Grants old new who Shared
AsksShared who (Err (Bad page kept found)) old new = Grants old new who Shared
