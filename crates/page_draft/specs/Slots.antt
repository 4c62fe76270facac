-- A page as it was read, as it was at the mark, and as it is now; and lists of such pages.
use Rattle.std.specs.Prelude.{◌≡◌, ℕ, zero, suc, ◌<◌, ◌≤◌, List, [], length, replicate, slice_index_or, Option, Some, None}
use Rattle.page_list.specs.Pages.{Pages}
use Rattle.page_draft.specs.declared.slot.ReadPage.{ReadPage}
use Rattle.page_draft.specs.declared.slot.ReadPage.TheVariants as read
use Rattle.page_draft.specs.declared.slot.Slot.{Slot}
use Rattle.page_draft.specs.declared.slot.Change.{Change}
use Rattle.page_draft.specs.declared.slot.Change.TheVariants.{Mark, Undo, Discard, Keep}

-- what a page holds: its bytes, and where it fails its checksum the sums that say so
pub record Shown : Type 0 where
  pub bytes : List ℕ
  pub bad : Option (ℕ × ℕ)

abbrev pub good : List ℕ → Shown
good bytes = record { bytes = bytes; bad = None }

-- of a page that fails its checksum no bytes are known, and zeros stand for them
abbrev pub shown : ℕ → ReadPage → Shown
shown page_size (read.Good bytes) = good bytes
shown page_size (read.Bad kept found) = record { bytes = replicate page_size 0; bad = Some (kept, found) }

-- what was put, or else this
abbrev pub put_or : Option (List ℕ) → Shown → Shown
put_or None other = other
put_or (Some bytes) other = good bytes

-- a page as it was read, as it was at the mark, and as it is now
abbrev pub read_of : ℕ → Slot → Shown
read_of page_size slot = shown page_size slot.read

abbrev pub marked_of : ℕ → Slot → Shown
marked_of page_size slot = put_or slot.marked (read_of page_size slot)

abbrev pub now_of : ℕ → Slot → Shown
now_of page_size slot = put_or slot.put (marked_of page_size slot)

-- what was put last
abbrev pub last_of : Option (List ℕ) → Option (List ℕ) → Option (List ℕ)
last_of None before = before
last_of (Some bytes) before = Some bytes

abbrev pub read_or : Option (List ℕ) → ReadPage → ReadPage
read_or None page = page
read_or (Some bytes) page = read.Good bytes

-- a slot, changed: what it holds now is that at the mark; or again that at the mark; or only what was read; or that is what was read
abbrev pub changed_slot : Change → Slot → Slot
changed_slot Mark slot = record slot { marked = last_of slot.put slot.marked; put = None }
changed_slot Undo slot = record slot { put = None }
changed_slot Discard slot = record slot { marked = None; put = None }
changed_slot Keep slot = record { read = read_or (last_of slot.put slot.marked) slot.read; marked = None; put = None }

-- the page of a number, from 1
abbrev pub no_page : Shown
no_page = good []

abbrev pub page_at : List Shown → ℕ → Shown
page_at pages zero = no_page
page_at pages (suc place) = slice_index_or pages place no_page

abbrev pub pages_of : ℕ → List Shown → Pages
pages_of usable pages = record {
  size = length pages;
  usable = usable;
  bytes = λ n. (page_at pages n).bytes;
  bad = λ n. (page_at pages n).bad;
}

-- each has as many bytes as a page has
abbrev pub AllLong : ℕ → List Shown → Type 0
AllLong page_size pages = (place : ℕ) → place < length pages → length (slice_index_or pages place no_page).bytes ≡ page_size

-- from this place on each has what it was given, and none fails a checksum
abbrev pub AllGoodFrom : ℕ → List Shown → Type 0
AllGoodFrom from pages = (place : ℕ) → from ≤ place → place < length pages → (slice_index_or pages place no_page).bad ≡ None
