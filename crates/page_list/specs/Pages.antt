-- A database as a list of pages: how many there are, what each holds, and which fail their checksum. Pages are
-- numbered from 1, places in a page from 0, and numbers in a page are big-endian.
-- After sqlite.org, "Database File Format", section 1.2, "Pages".
use Rattle.std.specs.Prelude.{◌≡◌, ℕ, ◌+◌, ◌≤◌, ◌<◌, ◌==◌, if◌then◌else◌, List, [], ◌∷◌, length, Option, None}
use Rattle.byte_base.specs.Numbers.{number_at}

-- the pages: their number, how many bytes of each are used, the bytes of each by its number, and, of a page that
-- fails its checksum, the checksum that is kept and the one that it has
pub record Pages : Type 0 where
  pub size : ℕ
  pub usable : ℕ
  pub bytes : ℕ → List ℕ
  pub bad : ℕ → Option (ℕ × ℕ)

-- there is a page of this number
pub record HasPage (pages : Pages) (number : ℕ) : Type 0 where
  pub least : 1 ≤ number
  pub most : number ≤ pages.size

-- it does not fail its checksum
abbrev pub IsGood : Pages → ℕ → Type 0
IsGood pages number = pages.bad number ≡ None

-- the number in the four bytes at a place of a page
abbrev pub word : Pages → ℕ → ℕ → ℕ
word pages number place = number_at 4 (pages.bytes number) place

-- how often a number stands in a list
abbrev pub times : ℕ → List ℕ → ℕ
times number [] = 0
times number (n ∷ more) = (if n == number then 1 else 0) + times number more

-- the number stands in the list
abbrev pub Among : List ℕ → ℕ → Type 0
Among numbers number = 1 ≤ times number numbers

-- no number stands in the list twice
pub record AllDifferent (numbers : List ℕ) : Type 0 where
  pub once : (number : ℕ) → times number numbers ≤ 1

-- these pages, of the same number and usable size, hold the same at a number
pub record SamePage (old new : Pages) (number : ℕ) : Type 0 where
  pub bytes_stay : new.bytes number ≡ old.bytes number
  pub mark_stays : new.bad number ≡ old.bad number

-- pages of one size, of which enough bytes are used, and no more of them than a number of four bytes counts
pub record AreSized (page_size : ℕ) (pages : Pages) : Type 0 where
  pub least : 480 ≤ pages.usable
  pub most : pages.usable ≤ page_size
  pub short : page_size ≤ 65536
  pub few : pages.size < 4294967296
  pub each : (number : ℕ) → HasPage pages number → length (pages.bytes number) ≡ page_size
