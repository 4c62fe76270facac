-- What may change on page 1 while it stays the first page of a whole database: the change counter, the size, the
-- freelist, the schema cookie, and the version for which the size holds.
-- After sqlite.org, "Database File Format", section 1.3, "The Database Header".
use Rattle.std.specs.Prelude.{◌≡◌, ◌≢◌, ◌⊎◌, ℕ, ◌+◌, ◌≤◌, ◌<◌, List, length, take, drop, slice_index}
use Rattle.byte_base.specs.Numbers.{number_at}
use Rattle.page_list.specs.Pages.{Pages, HasPage, IsGood, SamePage, Among, AreSized}
use Rattle.page_list.specs.Freelist.{Trunk, IsFreelist, free_pages, free_count}
use Rattle.page_list.specs.Edits.{after_takes, after_gives}
use Rattle.tree_model.specs.Tree.{Tree}
use Rattle.db_format.specs.Header.{page_of, IsPageSize}
use Rattle.tree_model.specs.Whole.{HasHeader, IsWholeFor, unsized_header, used_pages, named_pages}
use Rattle.tree_model.specs.Laws.{Keeps, Admits}
use Rattle.tree_laws.specs.Whole.{AreUnnamed}

-- beside the fields at 24 to 43 and 92 to 99, the first 100 bytes stay
pub record KeepsFields (old new : List ℕ) : Type 0 where
  pub long : length new ≡ length old
  pub same : (place : ℕ) → (place < 24) ⊎ ((44 ≤ place) × (place < 92)) → slice_index new place ≡ slice_index old place

-- of page 1, which is good, no more has changed than these fields and what is behind the usable size
pub record FrontChanges (old new : Pages) : Type 0 where
  pub there : HasPage new 1
  pub good : IsGood new 1
  pub fields : KeepsFields (old.bytes 1) (new.bytes 1)
  pub behind : drop 100 (take old.usable (new.bytes 1)) ≡ drop 100 (take old.usable (old.bytes 1))

-- the header is accepted as before, where the greatest database has room for the pages
abbrev pub HeaderStays : Type 0
HeaderStays = (old new : Pages) → HasHeader old → new.usable ≡ old.usable → FrontChanges old new → Admits old new → HasHeader new

-- the header says the page size of the pages: this byte tells how much of a page is not used, and two powers of two from
-- 512 on, no more than 255 apart, are one
abbrev pub HeaderSize : Type 0
HeaderSize = (pages : Pages) (page_size : ℕ) → HasHeader pages → IsPageSize page_size → pages.usable ≤ page_size → page_size ≤ pages.usable + 255 →
    page_of (unsized_header pages) ≡ page_size

-- the header and the freelist change, and the trees stay: the new freelist has only good pages that no tree names
abbrev pub WholeFront : Type 0
WholeFront = (old new : Pages) (roots : List ℕ) (trees : List Tree) (trunks trunks' : List Trunk) → IsWholeFor old roots trees trunks →
    Keeps old new (λ n. Among (used_pages roots trees) n × (n ≢ 1)) → FrontChanges old new → Admits old new → IsFreelist new trunks' →
    ((n : ℕ) → Among (free_pages trunks') n → IsGood new n × ¬ (Among (used_pages roots trees) n)) → free_count new ≡ length (free_pages trunks') →
    IsWholeFor new roots trees trunks'

-- of the header of the database on page 1 the freelist alone has changed: its first trunk and its count, at 32 to 39
-- (sections 1.3.8 and 1.5)
pub record FreelistFront (old new : Pages) : Type 0 where
  pub front : take 32 (new.bytes 1) ≡ take 32 (old.bytes 1)
  pub rest : drop 40 (take 100 (new.bytes 1)) ≡ drop 40 (take 100 (old.bytes 1))

-- so the header says the same numbers beside these two, and the same page size
pub record SaysSame (old new : Pages) : Type 0 where
  pub number : (width place : ℕ) → (place + width ≤ 32) ⊎ ((40 ≤ place) × (place + width ≤ 100)) → number_at width (new.bytes 1) place ≡ number_at width (old.bytes 1) place
  pub page : page_of (new.bytes 1) ≡ page_of (old.bytes 1)

-- no more than that changes where page 1 or its header stays, nor over two steps that change no more, nor over takes and
-- gives of whole pages
pub record FrontKept : Type 0 where
  pub says : (old new : Pages) → FreelistFront old new → SaysSame old new
  pub same : (old new : Pages) → SamePage old new 1 → FreelistFront old new
  pub header : (old new : Pages) → take 100 (new.bytes 1) ≡ take 100 (old.bytes 1) → FreelistFront old new
  pub steps : (old mid new : Pages) → FreelistFront old mid → FreelistFront mid new → FreelistFront old new
  pub takes : (page_size count : ℕ) (old : Pages) (roots : List ℕ) (trees : List Tree) (trunks : List Trunk) → AreSized page_size old →
      old.size + count < 4294967296 → IsWholeFor old roots trees trunks → FreelistFront old (after_takes page_size count old)
  pub gives : (page_size : ℕ) (old : Pages) (roots : List ℕ) (trees : List Tree) (trunks : List Trunk) (numbers : List ℕ) → AreSized page_size old →
      IsWholeFor old roots trees trunks → AreUnnamed old (named_pages roots trees trunks) numbers → FreelistFront old (after_gives page_size numbers old)
