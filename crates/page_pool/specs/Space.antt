-- What contracts say of a page space, as one record, and what its calls answer and leave.
use Rattle.std.specs.Prelude.{◌≡◌, ℕ, ◌+◌, ◌*◌, ◌≤◌, ◌<◌, Bool, true, List, IsTrue, Some, length, slice_get, Result, Ok, Err}
use Rattle.byte_base.specs.Count.{Rose}
use Rattle.page_list.specs.Pages.{Pages, IsGood, AreSized}
use Rattle.page_list.specs.Edits.{with_page, grown}
use Rattle.db_format.specs.Header.{greatest_length, IsPageSize}
use Rattle.db_format.specs.declared.fault.SpaceFault.{SpaceFault}
use Rattle.db_format.specs.declared.fault.SpaceFault.TheVariants.{Failed, Memory, Bad, Corrupt, Large}

-- a page space: whether it tells what its pages hold, the size of a page in bytes, the pages (their number and
-- usable size are known whether it tells or not), whether it may be asked, and changed (facts, since that of a pager is
-- a relation to a stack), whether it was changed, and how often its device has failed
pub record SpaceState : Type 1 where
  pub tells : Bool
  pub page_size : ℕ
  pub pages : Pages
  pub ready : Type 0
  pub writable : Type 0
  pub changed : Bool
  pub faults : ℕ

abbrev pub IsReady : SpaceState → Type 0
IsReady s = s.ready

-- it may be asked and changed
pub record IsWritable (s : SpaceState) : Type 0 where
  pub is_ready : s.ready
  pub is_writable : s.writable

-- a page size of SQLite's, a usable size whose rest fits the byte that says it, no more pages than the greatest
-- database has, and, where it is told, as many bytes on each page as a page has
pub record HasSizes (s : SpaceState) : Type 0 where
  pub size_of_page : IsPageSize s.page_size
  pub least : 480 ≤ s.pages.usable
  pub most : s.pages.usable ≤ s.page_size
  pub spare : s.page_size ≤ s.pages.usable + 255
  pub few : s.pages.size * s.page_size ≤ greatest_length
  pub each : IsTrue s.tells → AreSized s.page_size s.pages

-- what every call keeps; and the count of faults does not fall
pub record Steady (old new : SpaceState) : Type 0 where
  pub told : new.tells ≡ old.tells
  pub sized : new.page_size ≡ old.page_size
  pub used : new.pages.usable ≡ old.pages.usable
  pub is_ready : old.ready → new.ready
  pub is_writable : old.writable → new.writable
  pub counted : old.faults ≤ new.faults
  pub sizes : HasSizes new

-- neither the pages nor whether they were changed
pub record Stays (old new : SpaceState) : Type 0 where
  pub number : new.pages.size ≡ old.pages.size
  pub change : new.changed ≡ old.changed
  pub pages_stay : IsTrue old.tells → new.pages ≡ old.pages

-- this page fails its checksum, with these values
abbrev pub Fails : SpaceState → ℕ → ℕ → ℕ → Type 0
Fails s number kept found = IsTrue s.tells → s.pages.bad number ≡ Some (kept, found)

-- one page more passes the greatest database
abbrev pub IsLarge : SpaceState → Type 0
IsLarge s = greatest_length < (s.pages.size + 1) * s.page_size

-- why a call on one page is refused: Failed only where the count rose, Bad only where that page fails; want of
-- memory needs no cause
abbrev pub PageCause : {T : Type 0} → SpaceState → SpaceState → ℕ → Result T SpaceFault → Type 0
PageCause old new number (Ok _) = IsTrue old.tells → IsGood old.pages number
PageCause old new number (Err Failed) = Rose old.faults new.faults
PageCause old new number (Err Memory) = Unit {0}
PageCause old new number (Err (Bad page kept found)) = (page ≡ number) × Fails old number kept found
PageCause old new number (Err (Corrupt page)) = ⊥
PageCause old new number (Err (Large pages)) = ⊥

-- why one page more is refused: Large just where it passes the greatest database
abbrev pub GrowCause : {T : Type 0} → SpaceState → SpaceState → Result T SpaceFault → Type 0
GrowCause old new (Ok _) = ¬ (IsLarge old)
GrowCause old new (Err Failed) = Rose old.faults new.faults
GrowCause old new (Err Memory) = Unit {0}
GrowCause old new (Err (Bad page kept found)) = ⊥
GrowCause old new (Err (Corrupt page)) = ⊥
GrowCause old new (Err (Large pages)) = IsLarge old × (pages ≡ old.pages.size + 1)

-- a page was put
pub record Put (old new : SpaceState) (number : ℕ) (content : List ℕ) : Type 0 where
  pub size : new.pages.size ≡ old.pages.size
  pub change : new.changed ≡ true
  pub pages_are : IsTrue old.tells → new.pages ≡ with_page number content old.pages

-- a page more, of zeros, with the number behind the last one
pub record Grew (old new : SpaceState) (number : ℕ) : Type 0 where
  pub next : number ≡ old.pages.size + 1
  pub size : new.pages.size ≡ old.pages.size + 1
  pub change : new.changed ≡ true
  pub pages_are : IsTrue old.tells → new.pages ≡ grown old.page_size old.pages

abbrev pub PutLeaves : SpaceState → SpaceState → ℕ → List ℕ → Result Unit SpaceFault → Type 0
PutLeaves old new number content (Ok _) = Put old new number content
PutLeaves old new number content (Err _) = Stays old new

abbrev pub GrowLeaves : SpaceState → SpaceState → Result ℕ SpaceFault → Type 0
GrowLeaves old new (Ok number) = Grew old new number
GrowLeaves old new (Err _) = Stays old new

-- the bytes are zero from a place on
pub record IsZeroFrom (content : List ℕ) (first : ℕ) : Type 0 where
  pub zeros : (place : ℕ) → first ≤ place → place < length content → slice_get content place ≡ Some 0
