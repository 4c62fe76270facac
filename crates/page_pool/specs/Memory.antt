-- A page space in memory, as a state.
use Rattle.std.specs.Prelude.{◌≡◌, ℕ, zero, suc, ◌-◌, true, false, List, [], length, slice_index_or, None, ⊤}
use Rattle.page_list.specs.Pages.{Pages, IsGood}
use Rattle.page_pool.specs.Space.{SpaceState, IsWritable}
use Rattle.page_pool.specs.declared.mem_space.MemSpace.{MemSpace}

-- the page of a number, from 1, in a list
abbrev pub page_at : List (List ℕ) → ℕ → List ℕ
page_at pages zero = []
page_at pages (suc place) = slice_index_or pages place []

-- the pages are those of the list, and none of them fails its checksum
abbrev pub mem_pages : MemSpace → Pages
mem_pages space = record {
  size = length space.pages.items;
  usable = space.usable;
  bytes = page_at space.pages.items;
  bad = λ _. None;
}

-- it tells what they hold, may always be asked and changed, and never fails
abbrev pub mem_state : MemSpace → SpaceState
mem_state space = record {
  tells = true;
  page_size = space.page_size;
  pages = mem_pages space;
  ready = ⊤;
  writable = ⊤;
  changed = space.changed;
  faults = 0;
}

-- a space without pages, of this page size, with so many bytes reserved at the end of each page, and unchanged
pub record IsNewSpace (s : SpaceState) (page_size reserved : ℕ) : Type 0 where
  pub tells_all : s.tells ≡ true
  pub size_of_page : s.page_size ≡ page_size
  pub used : s.pages.usable ≡ page_size - reserved
  pub empty : s.pages.size ≡ 0
  pub all_good : (number : ℕ) → IsGood s.pages number
  pub may_be_changed : IsWritable s
  pub unchanged : s.changed ≡ false
  pub no_fault : s.faults ≡ 0
