-- Which number of a list is the first that stands in it twice.
use Rattle.std.specs.Prelude.{◌≡◌, ℕ, ◌≤◌, ◌<◌, List, length, slice_index}
use Rattle.page_list.specs.Pages.{times}

-- it stands at a place, and each number before this place stands in the list once
pub record IsFirst (numbers : List ℕ) (number : ℕ) : Type 0 where
  pub at : ℕ
  pub within : at < length numbers
  pub here : number ≡ slice_index numbers at
  pub before : (place : ℕ) → place < at → times (slice_index numbers place) numbers ≤ 1
