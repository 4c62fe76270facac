-- What follows from the definitions of the freelist and of chains.
use Rattle.std.specs.Prelude.{◌≡◌, ◌≢◌, ◌⊎◌, ℕ, ◌+◌, ◌≤◌, ◌<◌, List, [], ◌∷◌, length, take, drop}
use Rattle.page_list.specs.Pages.{Pages, HasPage, IsGood, SamePage, times, Among, AllDifferent, AreSized}
use Rattle.page_list.specs.Freelist.{Trunk, IsFreelist, first_trunk, free_count, free_pages, trunk_numbers, taken_page, take_from, give_to, taken_pages, take_each, give_each, TakeBreaks}
use Rattle.page_list.specs.Chain.{IsChain}
use Rattle.page_list.specs.Edits.{taken_number, after_take, after_give, taken_numbers, after_takes, after_gives}

-- of page 1, which is good, no more has changed than the first trunk and the count of free pages, at 32 to 39, and what
-- is behind the usable size
pub record OnlyHead (old new : Pages) : Type 0 where
  pub good : IsGood new 1
  pub long : length (new.bytes 1) ≡ length (old.bytes 1)
  pub front : take 32 (new.bytes 1) ≡ take 32 (old.bytes 1)
  pub rest : drop 40 (take old.usable (new.bytes 1)) ≡ drop 40 (take old.usable (old.bytes 1))

-- the count of free pages at 36 is that of the freelist
abbrev pub IsCounted : Pages → List Trunk → Type 0
IsCounted pages trunks = free_count pages ≡ length (free_pages trunks)

-- the pages have this freelist afterwards; what does not stand in it stays but page 1 and these pages, no page becomes
-- bad, every page keeps its length, and the count follows
pub record LeavesFreelist (page_size : ℕ) (old new : Pages) (before after : List Trunk) (beside : List ℕ) : Type 0 where
  pub freelist : IsFreelist new after
  pub used : new.usable ≡ old.usable
  pub others : (number : ℕ) → number ≢ 1 → ¬ (Among (free_pages before) number) → ¬ (Among beside number) → SamePage old new number
  pub good : (number : ℕ) → IsGood old number → IsGood new number
  pub first : OnlyHead old new
  pub counts : IsCounted old before → IsCounted new after
  pub sized : (number : ℕ) → HasPage new number → length (new.bytes number) ≡ page_size

-- a page taken: it was free, or is new where nothing was; it is neither page 1 nor in the freelist that is left, which
-- has all the others
pub record TakesOne (page_size : ℕ) (old : Pages) (trunks : List Trunk) : Type 0 where
  pub is : taken_number old ≡ taken_page old.size trunks
  pub behind : 2 ≤ taken_number old
  pub there : HasPage (after_take page_size old) (taken_number old)
  pub came : Among (free_pages trunks) (taken_number old) ⊎ ((trunks ≡ []) × (taken_number old ≡ old.size + 1))
  pub apart : ¬ (Among (free_pages (take_from trunks)) (taken_number old))
  pub rest : (number : ℕ) → number ≢ taken_number old → times number (free_pages (take_from trunks)) ≡ times number (free_pages trunks)
  pub size : ((trunks ≡ []) × ((after_take page_size old).size ≡ old.size + 1)) ⊎ ((trunks ≢ []) × ((after_take page_size old).size ≡ old.size))
  pub leaves : LeavesFreelist page_size old (after_take page_size old) trunks (take_from trunks) (taken_number old ∷ [])

abbrev pub Takes : Type 0
Takes = (page_size : ℕ) (old : Pages) (trunks : List Trunk) → AreSized page_size old → 1 ≤ old.size → IsGood old 1 → IsFreelist old trunks → TakesOne page_size old trunks

-- a page given that is neither page 1 nor free: the freelist has it and all that it had
pub record GivesOne (page_size : ℕ) (old : Pages) (trunks : List Trunk) (number : ℕ) : Type 0 where
  pub count : (n : ℕ) → times n (free_pages (give_to old.usable number trunks)) ≡ times n (number ∷ free_pages trunks)
  pub size : (after_give page_size number old).size ≡ old.size
  pub leaves : LeavesFreelist page_size old (after_give page_size number old) trunks (give_to old.usable number trunks) (number ∷ [])

abbrev pub Gives : Type 0
Gives = (page_size : ℕ) (old : Pages) (trunks : List Trunk) (number : ℕ) → AreSized page_size old → IsGood old 1 → IsFreelist old trunks
    → HasPage old number → 2 ≤ number → ¬ (Among (free_pages trunks) number) → GivesOne page_size old trunks number

-- so many pages taken one after the other: they are different, none is page 1 or free then, and each was free or is new
pub record TakesMany (page_size count : ℕ) (old : Pages) (trunks : List Trunk) (numbers : List ℕ) : Type 0 where
  pub are : numbers ≡ taken_pages old.size count trunks
  pub many : length numbers ≡ count
  pub different : AllDifferent numbers
  pub each : (number : ℕ) → Among numbers number → (2 ≤ number) × HasPage (after_takes page_size count old) number
      × (Among (free_pages trunks) number ⊎ (old.size < number)) × ¬ (Among (free_pages (take_each count trunks)) number)
  pub rest : (number : ℕ) → ¬ (Among numbers number) → times number (free_pages (take_each count trunks)) ≡ times number (free_pages trunks)
  pub no_fewer : old.size ≤ (after_takes page_size count old).size
  pub leaves : LeavesFreelist page_size old (after_takes page_size count old) trunks (take_each count trunks) numbers

abbrev pub TakesEach : Type 0
TakesEach = (page_size count : ℕ) (old : Pages) (trunks : List Trunk) → AreSized page_size old → old.size + count < 4294967296 → 1 ≤ old.size → IsGood old 1
    → IsFreelist old trunks → TakesMany page_size count old trunks (taken_numbers page_size count old)

-- no page taken is bad where no free page was: a new one is not
abbrev pub TakenGood : Type 0
TakenGood = (page_size count : ℕ) (old : Pages) (trunks : List Trunk) → AreSized page_size old → old.size + count < 4294967296 → 1 ≤ old.size → IsGood old 1
    → IsFreelist old trunks → ((number : ℕ) → Among (free_pages trunks) number → IsGood old number)
    → (number : ℕ) → Among (taken_numbers page_size count old) number → IsGood (after_takes page_size count old) number

-- none of the pages is page 1 or free, each is there, and none stands twice
pub record AreApart (pages : Pages) (numbers : List ℕ) (trunks : List Trunk) : Type 0 where
  pub each : (number : ℕ) → Among numbers number → (2 ≤ number) × HasPage pages number × ¬ (Among (free_pages trunks) number)
  pub different : AllDifferent numbers

-- these pages given one after the other: the freelist has them and all that it had
pub record GivesMany (page_size : ℕ) (old : Pages) (trunks : List Trunk) (numbers : List ℕ) : Type 0 where
  pub count : (n : ℕ) → times n (free_pages (give_each old.usable numbers trunks)) ≡ times n numbers + times n (free_pages trunks)
  pub size : (after_gives page_size numbers old).size ≡ old.size
  pub leaves : LeavesFreelist page_size old (after_gives page_size numbers old) trunks (give_each old.usable numbers trunks) numbers

abbrev pub GivesEach : Type 0
GivesEach = (page_size : ℕ) (old : Pages) (trunks : List Trunk) (numbers : List ℕ) → AreSized page_size old → IsGood old 1 → IsFreelist old trunks
    → AreApart old numbers trunks → GivesMany page_size old trunks numbers

-- where there is a freelist, its head is not damaged
abbrev pub NotDamaged : Type 0
NotDamaged = (pages : Pages) (trunks : List Trunk) (page : ℕ) → IsFreelist pages trunks → ¬ (TakeBreaks pages page)

-- a freelist stays where page 1 names the same first trunk and the trunks hold what they held
abbrev pub FreelistStays : Type 0
FreelistStays = (old new : Pages) (trunks : List Trunk) → new.usable ≡ old.usable → old.size ≤ new.size → first_trunk new ≡ first_trunk old
    → ((number : ℕ) → Among (trunk_numbers trunks) number → new.bytes number ≡ old.bytes number) → IsFreelist old trunks → IsFreelist new trunks

-- a chain stays where its pages do
abbrev pub ChainStays : Type 0
ChainStays = (old new : Pages) (first : ℕ) (numbers payload : List ℕ) → new.usable ≡ old.usable
    → ((number : ℕ) → Among numbers number → HasPage new number × SamePage old new number) → IsChain old first numbers payload → IsChain new first numbers payload
