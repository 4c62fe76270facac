-- How a database is opened: what its file begins, and why it is refused.
use Rattle.std.specs.Prelude.{◌≡◌, ◌≢◌, ℕ, ◌+◌, ◌-◌, ◌≤◌, false, if◌then◌else◌, List, [], ◌∷◌, ◌++◌, length, codes, IsTrue, Option, Some, None, Result, Ok, Err}
use Rattle.byte_base.specs.Count.{Rose}
use Rattle.vfs_model.specs.File.{FileState}
use Rattle.vfs_model.specs.Effect.{Opened, NoLooser}
use Rattle.vfs_trait.specs.State.{StackState, Steady, OpenStays, Stands}
use Rattle.vfs_trait.specs.Calls.{Takes, MeetsIn, checked}
use Rattle.vfs_trait.specs.declared.fault.VfsFault.{VfsFault}
use Rattle.vfs_trait.specs.declared.fault.VfsFault.TheVariants as call
use Rattle.vfs_trait.specs.declared.fault.OpenFault.{OpenFault}
use Rattle.vfs_trait.specs.declared.fault.OpenFault.TheVariants.{Failed, Memory, BadPage, Header as BadHeader, ForeignJournal, NeedsOther}
use Rattle.db_format.specs.Header.{IsPageSize, header_of}
use Rattle.db_format.specs.declared.header.Header.{Header}
use Rattle.db_format.specs.declared.header.HeaderFault.{HeaderFault}
use Rattle.page_draft.specs.Draft.{read_pages, IsClean}
use Rattle.page_draft.specs.declared.draft.PageDraft.{PageDraft}
use Rattle.pager_core.specs.declared.open.OpenRule.{OpenRule}
use Rattle.pager_core.specs.declared.pager.Pager.{Pager}

-- the name of the journal of a database
abbrev pub journal_of : List ℕ → List ℕ
journal_of name = name ++ codes "-journal"

-- a database can be made by the rule
pub record IsRule (rule : OpenRule) : Type 0 where
  pub size : IsPageSize rule.page
  pub room : 480 + rule.reserve ≤ rule.page

-- the page size of the checksum layer, where there is one
abbrev pub checksum_page : OpenRule → Option ℕ
checksum_page rule = if rule.cksum then Some rule.page else None

-- page size and reserved bytes by a header
abbrev pub sizes_of : Result Header HeaderFault → Result (ℕ × ℕ) HeaderFault
sizes_of (Ok header) = Ok (header.page, header.reserved)
sizes_of (Err fault) = Err fault

-- page size and reserved bytes of the database that a file is: those of the rule where it is empty, else those of its header, or why that is
-- refused
abbrev pub sizes_in : OpenRule → List ℕ → Result (ℕ × ℕ) HeaderFault
sizes_in rule [] = Ok (rule.page, rule.reserve)
sizes_in rule (first ∷ bytes) = sizes_of (header_of (first ∷ bytes) (length (first ∷ bytes)) (checksum_page rule))

-- no page was read yet, and nothing put
pub record IsUnread (pages : PageDraft) : Type 0 where
  pub none : (read_pages pages).size ≡ 0
  pub clean : IsClean pages

-- pages of these sizes
pub record HaveSizes (pages : PageDraft) (sizes : Result (ℕ × ℕ) HeaderFault) : Type 0 where
  pub page_size : ℕ
  pub reserved : ℕ
  pub are : sizes ≡ Ok (page_size, reserved)
  pub sized : pages.page_size ≡ page_size
  pub used : pages.usable ≡ page_size - reserved

-- a read of the first 100 bytes meets a bad page, in a stack that shows the file as it was here, unless that was wild
pub record MeetsBad (s : StackState) (name : List ℕ) (page kept found : ℕ) : Type 0 where
  pub at : StackState
  pub steady : Steady s at
  pub stands : Stands at
  pub same : IsTrue s.tells → (s.files name).wild ≡ false → ((at.files name).now ≡ (s.files name).now) × ((at.files name).wild ≡ false)
  pub meets : MeetsIn at name 0 100 page kept found (checked at.layers)

-- what an open file begins
abbrev pub BeginsAs : StackState → StackState → List ℕ → OpenRule → Result PageDraft OpenFault → Type 0
BeginsAs old new name rule (Ok pages) = IsTrue old.tells → HaveSizes pages (sizes_in rule (old.files name).now.bytes)
BeginsAs old new name rule (Err Failed) = Rose old.faults new.faults
BeginsAs old new name rule (Err Memory) = Unit {0}
BeginsAs old new name rule (Err (BadPage page kept found)) = MeetsBad old name page kept found × (IsTrue old.tells → (old.files name).now.bytes ≢ [])
BeginsAs old new name rule (Err (BadHeader fault)) = IsTrue old.tells → sizes_in rule (old.files name).now.bytes ≡ Err fault
BeginsAs old new name rule (Err ForeignJournal) = ⊥
BeginsAs old new name rule (Err (NeedsOther other)) = ⊥

-- what a header begins
abbrev pub HeaderGives : Result (ℕ × ℕ) HeaderFault → Result PageDraft OpenFault → Type 0
HeaderGives sizes (Ok pages) = HaveSizes pages sizes
HeaderGives sizes (Err (BadHeader fault)) = sizes ≡ Err fault
HeaderGives sizes (Err Failed) = ⊥
HeaderGives sizes (Err Memory) = ⊥
HeaderGives sizes (Err (BadPage page kept found)) = ⊥
HeaderGives sizes (Err ForeignJournal) = ⊥
HeaderGives sizes (Err (NeedsOther other)) = ⊥

-- the file of a pager is open by its number, and after a refusal none that was not
abbrev pub OpensPager : StackState → StackState → List ℕ → Result Pager OpenFault → Type 0
OpensPager old new name (Ok pager) = Takes old new name pager.fid.0 × (pager.name ≡ name)
OpensPager old new name (Err fault) = OpenStays old new

-- a file that was not wild is as it was, but that a missing one may be there, empty
pub record StaysOrEmpty (old new : FileState) : Type 0 where
  pub found : IsTrue old.now.there → old.wild ≡ false → NoLooser old new
  pub made : old.now.there ≡ false → old.wild ≡ false → new.now.bytes ≡ []
  pub tame : old.wild ≡ false → new.wild ≡ false
  pub longest : old.wild ≡ false → new.longest ≤ old.longest

-- the file is open and there, or was closed again
abbrev pub LeavesOpened : Result Pager OpenFault → FileState → FileState → Type 0
LeavesOpened (Ok pager) old new = Opened old new
LeavesOpened (Err fault) old new = StaysOrEmpty old new

-- Why a file is refused, where it was not wild. Of a wild file any content may be found
abbrev pub FileCaused : StackState → StackState → List ℕ → OpenRule → Result Pager OpenFault → Type 0
FileCaused old new name rule (Ok pager) = IsTrue old.tells → HaveSizes pager.pages (sizes_in rule (new.files name).now.bytes)
FileCaused old new name rule (Err Failed) = Rose old.faults new.faults
FileCaused old new name rule (Err Memory) = Unit {0}
FileCaused old new name rule (Err (BadPage page kept found)) = MeetsBad old name page kept found
FileCaused old new name rule (Err (BadHeader fault)) = IsTrue old.tells → (old.files name).wild ≡ false → sizes_in rule (old.files name).now.bytes ≡ Err fault
FileCaused old new name rule (Err ForeignJournal) = ⊥
FileCaused old new name rule (Err (NeedsOther other)) = ⊥

-- the journal of a name is not there
abbrev pub NoJournal : StackState → List ℕ → Type 0
NoJournal s name = IsTrue s.tells → (s.files (journal_of name)).now.there ≡ false

-- why a database is refused: for its journal before all that its file says
abbrev pub OpenCaused : StackState → StackState → List ℕ → OpenRule → Result Pager OpenFault → Type 0
OpenCaused old new name rule (Ok pager) = NoJournal old name × FileCaused old new name rule (Ok pager)
OpenCaused old new name rule (Err Failed) = Rose old.faults new.faults
OpenCaused old new name rule (Err Memory) = Unit {0}
OpenCaused old new name rule (Err (BadPage page kept found)) = NoJournal old name × MeetsBad old name page kept found
OpenCaused old new name rule (Err (BadHeader fault)) = NoJournal old name × FileCaused old new name rule (Err (BadHeader fault))
OpenCaused old new name rule (Err ForeignJournal) = IsTrue old.tells → IsTrue (old.files (journal_of name)).now.there
OpenCaused old new name rule (Err (NeedsOther other)) = ⊥

-- a refused call of the stack refuses the opening. Busy and Full are never answered in one
abbrev pub refusal_of : VfsFault → OpenFault
refusal_of call.Failed = Failed
refusal_of call.Memory = Memory
refusal_of (call.BadPage page kept found) = BadPage page kept found
refusal_of (call.Busy holder level) = Memory
refusal_of (call.Full total limit) = Memory
