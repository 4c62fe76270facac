-- The freelist, gone over trunk by trunk. Only the steps of the plain program speak by these words.
use Rattle.std.specs.Prelude.{◌≡◌, ℕ, ◌+◌, ◌*◌, ◌≤◌, ◌<◌, List, ◌∷◌, ◌++◌, length, slice_index}
use Rattle.page_list.specs.Pages.{Pages, HasPage, Among, AllDifferent}
use Rattle.byte_base.specs.Numbers.{number_at}
use Rattle.page_list.specs.Freelist.{Trunk, IsTrunk}

-- each is the number of a page other than page 1
pub record MayBeFree (pages : Pages) (numbers : List ℕ) : Type 0 where
  pub each : (number : ℕ) → Among numbers number → HasPage pages number × (2 ≤ number)

-- the trunk may follow those whose pages are these
pub record Follows (pages : Pages) (met : List ℕ) (trunk : Trunk) : Type 0 where
  pub is_trunk : IsTrunk pages trunk
  pub free : MayBeFree pages (trunk.number ∷ trunk.leaves)
  pub different : AllDifferent (met ++ (trunk.number ∷ trunk.leaves))

-- these are the numbers behind the first eight bytes
pub record AreLeaves (bytes : List ℕ) (count : ℕ) (leaves : List ℕ) : Type 0 where
  pub counted : length leaves ≡ count
  pub each : (i : ℕ) → i < count → number_at 4 bytes (8 + 4 * i) ≡ slice_index leaves i
