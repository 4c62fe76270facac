-- The pages that a file shows.
use Rattle.std.specs.Prelude.{◌≡◌, ℕ, ◌-◌, ◌*◌, ◌/◌, List, length, take, drop}
use Rattle.page_list.specs.Pages.{Pages, HasPage, IsGood}

-- the bytes of a page in a file
abbrev pub page_in : ℕ → List ℕ → ℕ → List ℕ
page_in page_size bytes n = take page_size (drop ((n - 1) * page_size) bytes)

-- a file shows these pages: as many as stand whole in it, each that does not fail its checksum as it stands there
pub record Shows (page_size : ℕ) (bytes : List ℕ) (pages : Pages) : Type 0 where
  pub sized : pages.size ≡ length bytes / page_size
  pub each : (n : ℕ) → HasPage pages n → IsGood pages n → pages.bytes n ≡ page_in page_size bytes n
