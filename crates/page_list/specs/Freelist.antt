-- The freelist: the pages that are not in use, kept as trunks that are linked from page 1, each with its leaves.
-- After sqlite.org, "Database File Format", section 1.5, "The Freelist".
use Rattle.std.specs.Prelude.{◌≡◌, ◌≢◌, ◌⊎◌, ℕ, zero, suc, ◌+◌, ◌*◌, ◌-◌, ◌/◌, ◌≤◌, ◌<◌, nat_lt, if◌then◌else◌, List, [], ◌∷◌, ◌++◌, length, take, map, slice_index}
use Rattle.std.specs.List.{flat_map}
use Rattle.page_list.specs.Pages.{Pages, HasPage, IsGood, word, Among, AllDifferent}

-- the first trunk, 0 for none, and how many pages are free, as page 1 says (section 1.3.8)
abbrev pub first_trunk : Pages → ℕ
first_trunk pages = word pages 1 32

abbrev pub free_count : Pages → ℕ
free_count pages = word pages 1 36

-- the next trunk, 0 for none, the number of leaves, and each leaf, as a trunk page says
abbrev pub next_trunk : Pages → ℕ → ℕ
next_trunk pages number = word pages number 0

abbrev pub leaf_count : Pages → ℕ → ℕ
leaf_count pages number = word pages number 4

abbrev pub leaf_at : Pages → ℕ → ℕ → ℕ
leaf_at pages number i = word pages number (8 + 4 * i)

-- the most leaves that a trunk may say. A trunk with fewer than `full` of them takes another: SQLite leaves
-- the last six places free, for readers older than 3.6.0
abbrev pub most_leaves : ℕ → ℕ
most_leaves usable = usable / 4 - 2

abbrev pub full : ℕ → ℕ
full usable = usable / 4 - 8

-- a trunk: its page, and its leaves in order
pub record Trunk : Type 0 where
  pub number : ℕ
  pub leaves : List ℕ

-- the page of the trunk is well formed and says these leaves
pub record IsTrunk (pages : Pages) (trunk : Trunk) : Type 0 where
  pub counted : leaf_count pages trunk.number ≡ length trunk.leaves
  pub few : length trunk.leaves ≤ most_leaves pages.usable
  pub each : (i : ℕ) → i < length trunk.leaves → leaf_at pages trunk.number i ≡ slice_index trunk.leaves i

-- the trunks are linked from a number on, and the last one says 0
abbrev pub AreTrunks : Pages → ℕ → List Trunk → Type 0
AreTrunks pages next [] = next ≡ 0
AreTrunks pages next (trunk ∷ more) = (trunk.number ≡ next) × IsTrunk pages trunk × AreTrunks pages (next_trunk pages trunk.number) more

-- the pages of the freelist, each trunk followed by its leaves
abbrev pub free_pages : List Trunk → List ℕ
free_pages trunks = flat_map (λ trunk. trunk.number ∷ trunk.leaves) trunks

-- the pages have this freelist: linked from page 1, no page in it twice, none out of range, and not page 1
pub record IsFreelist (pages : Pages) (trunks : List Trunk) : Type 0 where
  pub linked : AreTrunks pages (first_trunk pages) trunks
  pub within : (number : ℕ) → Among (free_pages trunks) number → HasPage pages number × (2 ≤ number)
  pub different : AllDifferent (free_pages trunks)

-- the pages have one freelist at most
abbrev pub OneFreelist : Type 0
OneFreelist = (pages : Pages) (a b : List Trunk) → IsFreelist pages a → IsFreelist pages b → a ≡ b

-- the numbers of the trunks
abbrev pub trunk_numbers : List Trunk → List ℕ
trunk_numbers trunks = map (λ trunk. trunk.number) trunks

-- the page that is taken from a freelist, and the freelist without it: the last leaf of the first trunk, or that trunk
-- where it has no leaf; where the freelist is empty, the page behind the last one
abbrev pub taken_page : ℕ → List Trunk → ℕ
taken_page size [] = size + 1
taken_page size (trunk ∷ more) =
    if nat_lt 0 (length trunk.leaves) then slice_index trunk.leaves (length trunk.leaves - 1) else trunk.number

abbrev pub without_last : Trunk → Trunk
without_last trunk = record trunk { leaves = take (length trunk.leaves - 1) trunk.leaves }

abbrev pub take_from : List Trunk → List Trunk
take_from [] = []
take_from (trunk ∷ more) = if nat_lt 0 (length trunk.leaves) then without_last trunk ∷ more else more

-- the freelist with a page more: the last leaf of the first trunk, or a new first trunk
abbrev pub with_leaf : Trunk → ℕ → Trunk
with_leaf trunk number = record trunk { leaves = trunk.leaves ++ number ∷ [] }

abbrev pub give_to : ℕ → ℕ → List Trunk → List Trunk
give_to usable number [] = record { number = number; leaves = [] } ∷ []
give_to usable number (trunk ∷ more) =
    if nat_lt (length trunk.leaves) (full usable) then with_leaf trunk number ∷ more
    else record { number = number; leaves = [] } ∷ trunk ∷ more

-- how many pages there are after one was taken
abbrev pub size_after : ℕ → List Trunk → ℕ
size_after size [] = size + 1
size_after size (trunk ∷ more) = size

-- so many pages taken one after the other, and the freelist then; and the freelist with these pages given to it
abbrev pub taken_pages : ℕ → ℕ → List Trunk → List ℕ
taken_pages size zero trunks = []
taken_pages size (suc count) trunks = taken_page size trunks ∷ taken_pages (size_after size trunks) count (take_from trunks)

abbrev pub take_each : ℕ → List Trunk → List Trunk
take_each zero trunks = trunks
take_each (suc count) trunks = take_each count (take_from trunks)

abbrev pub give_each : ℕ → List ℕ → List Trunk → List Trunk
give_each usable [] trunks = trunks
give_each usable (number ∷ more) trunks = give_each usable more (give_to usable number trunks)

-- the first trunk that page 1 names is a page, good, and says no more leaves than it may
pub record IsFirstTrunk (pages : Pages) (trunk : ℕ) : Type 0 where
  pub named : trunk ≡ first_trunk pages
  pub there : HasPage pages trunk
  pub good : IsGood pages trunk
  pub few : leaf_count pages trunk ≤ most_leaves pages.usable

-- page 1 is good, and so is the first trunk where it names one: what every take and give asks for
pub record HasHead (pages : Pages) : Type 0 where
  pub first_good : IsGood pages 1
  pub trunk : (first_trunk pages ≡ 0) ⊎ IsFirstTrunk pages (first_trunk pages)

-- how the head can be damaged, and the page that says so. The number of the first trunk is out of range: page 1
abbrev pub NoTrunk : Pages → ℕ → Type 0
NoTrunk pages page = IsGood pages 1 × (first_trunk pages ≢ 0) × ¬ (HasPage pages (first_trunk pages)) × (page ≡ 1)

-- the first trunk, which is a page and good, says too many leaves: that trunk
abbrev pub BadTrunk : Pages → ℕ → Type 0
BadTrunk pages page = IsGood pages 1 × HasPage pages page × IsGood pages page × (page ≡ first_trunk pages) × (most_leaves pages.usable < leaf_count pages page)

-- its last leaf is out of range: that trunk
abbrev pub NoLeaf : Pages → ℕ → Type 0
NoLeaf pages page = IsGood pages 1 × IsFirstTrunk pages page × (1 ≤ leaf_count pages page) × ¬ (HasPage pages (leaf_at pages page (leaf_count pages page - 1)))

-- giving meets the first two, taking all three
abbrev pub GiveBreaks : Pages → ℕ → Type 0
GiveBreaks pages page = NoTrunk pages page ⊎ BadTrunk pages page

abbrev pub TakeBreaks : Pages → ℕ → Type 0
TakeBreaks pages page = GiveBreaks pages page ⊎ NoLeaf pages page
