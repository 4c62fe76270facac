-- Pages that stand in memory one after the other, as the plain program has them.
-- After sqlite.org, "Database File Format", section 1.2, "Pages": they are numbered from 1.
use Rattle.std.specs.Prelude.{◌≡◌, ℕ, ◌-◌, ◌≤◌, nat_eq, if◌then◌else◌, List, [], length, Option, Some, None, slice_get}
use Rattle.page_list.specs.Pages.{Pages}
use Rattle.ref_pages.specs.declared.pages.RefPage.{RefPage}

-- the page of a number, where there is one
abbrev pub item_of : List RefPage → ℕ → Option RefPage
item_of items number = if nat_eq number 0 then None else slice_get items (number - 1)

-- its bytes and its mark
abbrev pub bytes_in : Option RefPage → List ℕ
bytes_in None = []
bytes_in (Some page) = page.bytes

abbrev pub mark_in : Option RefPage → Option (ℕ × ℕ)
mark_in None = None
mark_in (Some page) = page.bad

-- the first of these is page 1; a page that is not there has no bytes and no mark
abbrev pub listed : ℕ → List RefPage → Pages
listed usable items = record {
  size = length items;
  usable = usable;
  bytes = λ number. bytes_in (item_of items number);
  bad = λ number. mark_in (item_of items number);
}

-- they are as large and as many as the pages of a database may be, with so many usable bytes
pub record IsSized (usable : ℕ) (items : List RefPage) : Type 0 where
  pub least : 480 ≤ usable
  pub most : usable ≤ 65536
  pub whole : (at : ℕ) (page : RefPage) → slice_get items at ≡ Some page → usable ≤ length page.bytes
  pub short : (at : ℕ) (page : RefPage) → slice_get items at ≡ Some page → length page.bytes ≤ 65536
  pub few : length items ≤ 4294967294
