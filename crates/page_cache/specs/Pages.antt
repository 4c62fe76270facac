-- A cache of pages: the pages by their numbers, the last used first.
use Rattle.std.specs.Prelude.{◌≡◌, ◌≢◌, ℕ, ◌≤◌, ◌==◌, nat_eq, not, List, [], ◌∷◌, length, take, filter, Option, Some, None, IfSome}
use Rattle.std.specs.List.{IsDistinct}
use Rattle.std.specs.Map.{keys_of, lookup}

-- the pages of a cache, the last used first, and how many there may be
pub record Pages : Type 0 where
  pub entries : List (ℕ × List ℕ)
  pub capacity : ℕ

-- no pages
abbrev pub no_pages : ℕ → Pages
no_pages capacity = record { entries = []; capacity = capacity }

-- the page of a number
abbrev pub page_at : Pages → ℕ → Option (List ℕ)
page_at pages number = lookup (nat_eq number) pages.entries

-- the entries of all other numbers
abbrev pub without : ℕ → List (ℕ × List ℕ) → List (ℕ × List ℕ)
without number entries = filter (λ e. not (number == e.0)) entries

-- the entries with this page first
abbrev pub with_first : ℕ → List ℕ → List (ℕ × List ℕ) → List (ℕ × List ℕ)
with_first number page entries = (number, page) ∷ without number entries

-- a page is put first, and what is then too much is left out at the end
abbrev pub after_put : Pages → ℕ → List ℕ → Pages
after_put pages number page = record { entries = take pages.capacity (with_first number page pages.entries); capacity = pages.capacity }

-- the page that was found under a number becomes the first
abbrev pub found_first : Pages → ℕ → Option (List ℕ) → Pages
found_first pages number None = pages
found_first pages number (Some page) = record { entries = with_first number page pages.entries; capacity = pages.capacity }

-- a page is used: it becomes the first where it is there, and nothing changes where it is not
abbrev pub after_use : Pages → ℕ → Pages
after_use pages number = found_first pages number (page_at pages number)

-- each number has one page at most, and there are no more pages than there may be
pub record IsCache (pages : Pages) : Type 0 where
  pub different : IsDistinct nat_eq (keys_of pages.entries)
  pub fits : length pages.entries ≤ pages.capacity
  pub some : 1 ≤ pages.capacity

-- every page has this length
pub record IsSized (size : ℕ) (pages : Pages) : Type 0 where
  pub each : (number : ℕ) → IfSome (page_at pages number) (λ page. length page ≡ size)

-- the same page is found under each number
pub record SamePages (old new : Pages) : Type 0 where
  pub each : (number : ℕ) → page_at new number ≡ page_at old number

-- this page is found under its number, and under another only what was found there before
pub record Stores (old new : Pages) (number : ℕ) (page : List ℕ) : Type 0 where
  pub stored : page_at new number ≡ Some page
  pub others : (other : ℕ) → other ≢ number → IfSome (page_at new other) (λ found. page_at old other ≡ Some found)
