-- What the steps of a write of the header leave. Only these steps speak by these words.
use Rattle.std.specs.Prelude.{◌≡◌, ℕ, ◌+◌, ◌*◌, ◌≤◌, ◌<◌, ◌⊎◌, List, [], ◌∷◌, ◌++◌, length, slice_index}
use Rattle.db_format.specs.Header.{title}
use Rattle.byte_base.specs.Numbers.{number_at}

-- numbers of so many bytes each stand from a place on, and beside them nothing has changed
pub record Puts (width : ℕ) (old new : List ℕ) (place : ℕ) (numbers : List ℕ) : Type 0 where
  pub size : length new ≡ length old
  pub inside : (k : ℕ) → k < length numbers → number_at width new (place + width * k) ≡ slice_index numbers k
  pub beside : (other : ℕ) → (other < place) ⊎ (place + width * length numbers ≤ other) → slice_index new other ≡ slice_index old other

-- the first 24 bytes of every header, with zeros for the page size and the reserved bytes
abbrev pub beginning : List ℕ
beginning = title ++ 0 ∷ 0 ∷ 1 ∷ 1 ∷ 0 ∷ 64 ∷ 32 ∷ 32 ∷ []
