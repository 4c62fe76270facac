-- The pages of a draft: as they were read, as they were at the mark, and as they are now; and what calls leave of them.
use Rattle.std.specs.Prelude.{◌≡◌, ℕ, ◌+◌, ◌*◌, ◌<◌, ◌≤◌, nat_eq, if◌then◌else◌, false, List, map, take, length, Some}
use Rattle.db_format.specs.Header.{greatest_length, IsPageSize}
use Rattle.db_format.specs.declared.fault.SpaceFault.{SpaceFault}
use Rattle.db_format.specs.declared.fault.SpaceFault.TheVariants.{Failed, Memory, Bad, Corrupt, Large}
use Rattle.page_list.specs.Pages.{Pages, AreSized}
use Rattle.page_draft.specs.Slots.{Shown, shown, read_of, marked_of, now_of, pages_of}
use Rattle.page_draft.specs.declared.slot.ReadPage.{ReadPage}
use Rattle.page_draft.specs.declared.draft.PageDraft.{PageDraft}

-- the pages as they were read, as they were at the mark, and as they are now
abbrev pub read_list : PageDraft → List Shown
read_list d = take d.read_len (map (read_of d.page_size) d.slots.items)

abbrev pub marked_list : PageDraft → List Shown
marked_list d = take d.marked_len (map (marked_of d.page_size) d.slots.items)

abbrev pub now_list : PageDraft → List Shown
now_list d = map (now_of d.page_size) d.slots.items

abbrev pub read_pages : PageDraft → Pages
read_pages d = pages_of d.usable (read_list d)

abbrev pub marked_pages : PageDraft → Pages
marked_pages d = pages_of d.usable (marked_list d)

abbrev pub now_pages : PageDraft → Pages
now_pages d = pages_of d.usable (now_list d)

-- a page size of SQLite's, a usable size whose rest fits the byte that says it, no more pages than the greatest database has, and as many
-- bytes on each page as a page has
pub record HasSizes (page_size : ℕ) (pages : Pages) : Type 0 where
  pub size_of_page : IsPageSize page_size
  pub least : 480 ≤ pages.usable
  pub most : pages.usable ≤ page_size
  pub spare : page_size ≤ pages.usable + 255
  pub few : pages.size * page_size ≤ greatest_length
  pub each : AreSized page_size pages

-- nothing was put or added: all three are the same
pub record IsClean (d : PageDraft) : Type 0 where
  pub marked_are : marked_list d ≡ read_list d
  pub now_are : now_list d ≡ read_list d
  pub unchanged : d.changed ≡ false
  pub unmarked : d.marked_changed ≡ false

-- the size of a page, and how many bytes of it are used, are as they were
pub record KeepsSizes (old new : PageDraft) : Type 0 where
  pub sized : new.page_size ≡ old.page_size
  pub used : new.usable ≡ old.usable

-- and so is what was read
pub record KeepsRead (old new : PageDraft) : Type 0 where
  pub sizes : KeepsSizes old new
  pub read_stays : read_list new ≡ read_list old

-- and what was there at the mark
pub record KeepsMark (old new : PageDraft) : Type 0 where
  pub reads : KeepsRead old new
  pub marked_stays : marked_list new ≡ marked_list old
  pub mark_stays : new.marked_changed ≡ old.marked_changed

-- nothing has changed
pub record Stays (old new : PageDraft) : Type 0 where
  pub marks : KeepsMark old new
  pub now_stays : now_list new ≡ now_list old
  pub change_stays : new.changed ≡ old.changed

-- the pages with one more behind them
abbrev pub with_last : Shown → Pages → Pages
with_last page pages = record pages {
  size = pages.size + 1;
  bytes = λ n. if nat_eq n (pages.size + 1) then page.bytes else pages.bytes n;
  bad = λ n. if nat_eq n (pages.size + 1) then page.bad else pages.bad n;
}

-- a page as it was read has as many bytes as a page has
abbrev pub IsLong : ℕ → ReadPage → Type 0
IsLong page_size page = length (shown page_size page).bytes ≡ page_size

-- why a page is not given: it fails its checksum
abbrev pub IsBad : Pages → ℕ → SpaceFault → Type 0
IsBad pages number Failed = ⊥
IsBad pages number Memory = ⊥
IsBad pages number (Bad page kept found) = (page ≡ number) × (pages.bad number ≡ Some (kept, found))
IsBad pages number (Corrupt page) = ⊥
IsBad pages number (Large count) = ⊥

-- why one is not put: want of memory needs no cause
abbrev pub PageFails : Pages → ℕ → SpaceFault → Type 0
PageFails pages number Failed = ⊥
PageFails pages number Memory = Unit {0}
PageFails pages number (Bad page kept found) = (page ≡ number) × (pages.bad number ≡ Some (kept, found))
PageFails pages number (Corrupt page) = ⊥
PageFails pages number (Large count) = ⊥

-- why one is not added: Large just where it passes the greatest database
abbrev pub PassesGreatest : ℕ → Pages → Type 0
PassesGreatest page_size pages = greatest_length < (pages.size + 1) * page_size

abbrev pub GrowFails : ℕ → Pages → SpaceFault → Type 0
GrowFails page_size pages Failed = ⊥
GrowFails page_size pages Memory = Unit {0}
GrowFails page_size pages (Bad page kept found) = ⊥
GrowFails page_size pages (Corrupt page) = ⊥
GrowFails page_size pages (Large count) = PassesGreatest page_size pages × (count ≡ pages.size + 1)
