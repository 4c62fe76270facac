-- What the private steps of a take and a give read and write. Only these steps speak by these words.
use Rattle.std.specs.Prelude.{◌≡◌, ℕ, ◌≤◌, true, List, length, IsTrue, MatchOption}
use Rattle.byte_base.specs.Count.{Rose}
use Rattle.byte_base.specs.Numbers.{number_at}
use Rattle.page_list.specs.Pages.{HasPage, IsGood}
use Rattle.page_list.specs.Freelist.{most_leaves, GiveBreaks}
use Rattle.page_list.specs.Edits.{rewritten}
use Rattle.db_format.specs.declared.fault.SpaceFault.{SpaceFault}
use Rattle.db_format.specs.declared.fault.SpaceFault.TheVariants.{Failed, Memory, Bad, Corrupt, Large}
use Rattle.page_pool.specs.Space.{SpaceState, HasSizes, Steady, Stays, Fails}
use Rattle.page_pool.specs.Pool.{OnlyTwo, TakeAsks}
use Rattle.page_pool.specs.declared.head.Head.{Head}
use Rattle.page_pool.specs.declared.head.TrunkPage.{TrunkPage}

-- a call has read: all is as it was, but that the count of faults may have risen
pub record Same (old new : SpaceState) : Type 0 where
  pub steady : Steady old new
  pub stays : Stays old new

-- a page was read
pub record ReadsPage (s : SpaceState) (number : ℕ) (page : List ℕ) : Type 0 where
  pub sizes : HasSizes s
  pub size : length page ≡ s.page_size
  pub good : IsTrue s.tells → IsGood s.pages number
  pub is_page : IsTrue s.tells → page ≡ s.pages.bytes number

-- the first trunk was read, which page 1 names: it is there, and says no more leaves than it may
pub record ReadsTrunk (s : SpaceState) (first : List ℕ) (trunk : TrunkPage) : Type 0 where
  pub named : trunk.number ≡ number_at 4 first 32
  pub there : HasPage s.pages trunk.number
  pub holds : ReadsPage s trunk.number trunk.page
  pub counted : trunk.leaves ≡ number_at 4 trunk.page 4
  pub few : trunk.leaves ≤ most_leaves s.pages.usable

-- page 1 was read, and the first trunk where it names one
pub record ReadsHead (s : SpaceState) (head : Head) : Type 0 where
  pub first_holds : ReadsPage s 1 head.first
  pub trunk_holds : MatchOption head.trunk (number_at 4 head.first 32 ≡ 0) (ReadsTrunk s head.first)

-- why they could not be read
abbrev pub HeadRefused : SpaceState → SpaceState → SpaceFault → Type 0
HeadRefused old new Failed = Rose old.faults new.faults
HeadRefused old new Memory = Unit {0}
HeadRefused old new (Bad page kept found) = Fails old page kept found × (IsTrue old.tells → TakeAsks old.pages page)
HeadRefused old new (Corrupt page) = IsTrue old.tells → GiveBreaks old.pages page
HeadRefused old new (Large pages) = ⊥

-- a page and then page 1 were written
pub record Wrote (old new : SpaceState) (number : ℕ) (content first : List ℕ) : Type 0 where
  pub size : new.pages.size ≡ old.pages.size
  pub change : new.changed ≡ true
  pub good : IsTrue old.tells → IsGood old.pages number
  pub pages_are : IsTrue old.tells → new.pages ≡ rewritten 1 first (rewritten number content old.pages)

-- no more than these two may have changed
pub record WriteStops (old new : SpaceState) (number : ℕ) : Type 0 where
  pub size : new.pages.size ≡ old.pages.size
  pub only : IsTrue old.tells → OnlyTwo old.pages new.pages 1 number

-- why they could not be written, where page 1 is good
abbrev pub WriteRefused : SpaceState → SpaceState → ℕ → SpaceFault → Type 0
WriteRefused old new number Failed = Rose old.faults new.faults × WriteStops old new number
WriteRefused old new number Memory = WriteStops old new number
WriteRefused old new number (Bad page kept found) =
    (new.pages.size ≡ old.pages.size) × (IsTrue old.tells → Stays old new × (page ≡ number) × Fails old number kept found)
WriteRefused old new number (Corrupt page) = ⊥
WriteRefused old new number (Large pages) = ⊥
