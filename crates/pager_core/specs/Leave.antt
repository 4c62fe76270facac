-- What a connection leaves of a pager that it goes out of, and the numbers of a database.
use Rattle.std.specs.Prelude.{◌≡◌, ℕ, nat_eq, false, true, if◌then◌else◌, Option, Some, None}
use Rattle.page_list.specs.Pages.{Pages, word}
use Rattle.page_draft.specs.Draft.{IsClean}
use Rattle.pager_core.specs.Seen.{owns}
use Rattle.pager_core.specs.declared.pager.Pager.{Pager}

-- whose draft is left when that of this connection is dropped
abbrev pub owner_without : Option ℕ → ℕ → Option ℕ
owner_without owner who = if owns owner who then None else owner

-- the draft of a connection is dropped, where it has one; that of another stays
pub record DropsDraft (old new : Pager) (who : ℕ) : Type 0 where
  pub owner : new.owner ≡ owner_without old.owner who
  pub own : owns old.owner who ≡ true → IsClean new.pages
  pub others : owns old.owner who ≡ false → new.pages ≡ old.pages

-- a number that stands on page 1, and 0 where that is not known
abbrev pub known_word : Option (ℕ × ℕ) → ℕ → ℕ
known_word None number = number
known_word (Some sums) number = 0

-- the change counter at 24 of page 1: 0 where there is no page, or the page fails its checksum
abbrev pub counter_of : Pages → ℕ
counter_of pages = if nat_eq pages.size 0 then 0 else known_word (pages.bad 1) (word pages 1 24)
