-- The schema cookie: a number that rises with each change of the schema.
-- After sqlite.org, "Database File Format", section 1.3.9, "Schema cookie".
use Rattle.std.specs.Prelude.{◌≡◌, ℕ, ◌+◌, ◌%◌, ◌≤◌, nat_eq, if◌then◌else◌, List, IsTrue, Err}
use Rattle.byte_base.specs.Numbers.{with_number}
use Rattle.page_list.specs.Pages.{Pages, IsGood, word}
use Rattle.page_list.specs.Edits.{with_page, cleared}
use Rattle.page_pool.specs.Space.{SpaceState, Stays, PageCause}
use Rattle.db_format.specs.declared.fault.SpaceFault.{SpaceFault}

-- one more, modulo 2^32
abbrev pub next_cookie : ℕ → ℕ
next_cookie cookie = (cookie + 1) % 4294967296

-- that of the pages; of no pages it is 0
abbrev pub cookie_of : Pages → ℕ
cookie_of pages = if nat_eq pages.size 0 then 0 else word pages 1 40

-- page 1 with the next cookie
abbrev pub with_next_cookie : Pages → List ℕ
with_next_cookie pages = cleared pages.usable (with_number 4 40 (next_cookie (word pages 1 40)) (pages.bytes 1))

-- the cookie was raised: page 1 could be read, and all other pages stay
pub record CookieRaised (old new : SpaceState) : Type 0 where
  pub some : 1 ≤ old.pages.size
  pub size : new.pages.size ≡ old.pages.size
  pub change : IsTrue new.changed
  pub good : IsTrue old.tells → IsGood old.pages 1
  pub pages_are : IsTrue old.tells → new.pages ≡ with_page 1 (with_next_cookie old.pages) old.pages

-- it was not, as page 1 is not read or not put: nothing has changed
abbrev pub CookieRefused : SpaceState → SpaceState → SpaceFault → Type 0
CookieRefused old new fault = Stays old new × PageCause {T = Unit} old new 1 (Err fault)
