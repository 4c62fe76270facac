-- What taking a page from the freelist and giving one to it answer and leave. What they leave of the pages is a function
-- of them, `after_take` and `after_give`; that the freelist lacks the page then, or has it, are laws of these.
-- After sqlite.org, "Database File Format", section 1.5, "The Freelist".
use Rattle.std.specs.Prelude.{◌≡◌, ◌≢◌, ◌⊎◌, ℕ, ◌+◌, ◌≤◌, true, IsTrue}
use Rattle.byte_base.specs.Count.{Rose}
use Rattle.page_list.specs.Pages.{Pages, HasPage, IsGood, SamePage}
use Rattle.page_list.specs.Freelist.{first_trunk, leaf_count, full, HasHead, TakeBreaks, GiveBreaks}
use Rattle.page_list.specs.Edits.{taken_number, after_take, after_give}
use Rattle.page_pool.specs.Space.{SpaceState, Stays, Fails, IsLarge}
use Rattle.db_format.specs.declared.fault.SpaceFault.{SpaceFault}
use Rattle.db_format.specs.declared.fault.SpaceFault.TheVariants.{Failed, Memory, Bad, Corrupt, Large}

-- there are as many pages as before, or one more, which the greatest database has room for
abbrev pub Grows : SpaceState → SpaceState → Type 0
Grows old new = (new.pages.size ≡ old.pages.size) ⊎ ((new.pages.size ≡ old.pages.size + 1) × ¬ (IsLarge old))

-- a page was taken: where it is told, the head of the freelist is not damaged, and number and pages are those of a take
pub record Taken (old new : SpaceState) (number : ℕ) : Type 0 where
  pub within : HasPage new.pages number
  pub grows : Grows old new
  pub change : new.changed ≡ true
  pub head : IsTrue old.tells → HasHead old.pages
  pub is : IsTrue old.tells → number ≡ taken_number old.pages
  pub pages_are : IsTrue old.tells → new.pages ≡ after_take old.page_size old.pages

-- no trunk has room for a leaf, so that a page given becomes a trunk itself
abbrev pub HasNoRoom : Pages → Type 0
HasNoRoom pages = (first_trunk pages ≡ 0) ⊎ (full pages.usable ≤ leaf_count pages (first_trunk pages))

-- a page was given: where it is told, the head was not damaged, nor the page where it became a trunk
pub record Given (old new : SpaceState) (number : ℕ) : Type 0 where
  pub size : new.pages.size ≡ old.pages.size
  pub change : new.changed ≡ true
  pub head : IsTrue old.tells → HasHead old.pages
  pub good : IsTrue old.tells → HasNoRoom old.pages → IsGood old.pages number
  pub pages_are : IsTrue old.tells → new.pages ≡ after_give old.page_size number old.pages

-- no page was added, and none but these has changed
pub record OnlyTwo (old new : Pages) (a b : ℕ) : Type 0 where
  pub size : new.size ≡ old.size
  pub each : (number : ℕ) → number ≢ a → number ≢ b → SamePage old new number

pub record OnlyThree (old new : Pages) (a b c : ℕ) : Type 0 where
  pub size : new.size ≡ old.size
  pub each : (number : ℕ) → number ≢ a → number ≢ b → number ≢ c → SamePage old new number

-- what a call that the device or want of memory ended may leave: page 1 and the first trunk may have changed, and of
-- giving the page itself
pub record TakeStops (old new : SpaceState) : Type 0 where
  pub size : new.pages.size ≡ old.pages.size
  pub only : IsTrue old.tells → OnlyTwo old.pages new.pages 1 (first_trunk old.pages)

pub record GiveStops (old new : SpaceState) (number : ℕ) : Type 0 where
  pub size : new.pages.size ≡ old.pages.size
  pub only : IsTrue old.tells → OnlyThree old.pages new.pages 1 (first_trunk old.pages) number

-- the pages that taking one asks for: page 1, and the first trunk where page 1 is good and names one that is there
abbrev pub TakeAsks : Pages → ℕ → Type 0
TakeAsks pages page = (page ≡ 1) ⊎ (IsGood pages 1 × HasPage pages page × (page ≡ first_trunk pages))

-- giving one asks for these too, and for the page itself where it becomes a trunk, since what it held may have to be kept
abbrev pub GiveAsks : Pages → ℕ → ℕ → Type 0
GiveAsks pages number page = TakeAsks pages page ⊎ (HasHead pages × HasNoRoom pages × (page ≡ number))

-- a page that is asked for fails its checksum. Over a space that tells nothing has changed then; over one that does not
-- all that is known is the number of pages
pub record MeetsBad (old new : SpaceState) (Asks : Pages → ℕ → Type 0) (page kept found : ℕ) : Type 0 where
  pub size : new.pages.size ≡ old.pages.size
  pub stays : IsTrue old.tells → Stays old new
  pub fails : Fails old page kept found
  pub asks : IsTrue old.tells → Asks old.pages page

-- why no page was taken, and what stands then: Corrupt where the head of the freelist is damaged, Bad where a page that
-- is asked for fails, Large where the freelist is empty and one page more passes the greatest database
abbrev pub TakeRefused : SpaceState → SpaceState → SpaceFault → Type 0
TakeRefused old new Failed = Rose old.faults new.faults × TakeStops old new
TakeRefused old new Memory = TakeStops old new
TakeRefused old new (Bad page kept found) = MeetsBad old new TakeAsks page kept found
TakeRefused old new (Corrupt page) = Stays old new × (IsTrue old.tells → TakeBreaks old.pages page)
TakeRefused old new (Large pages) =
    Stays old new × IsLarge old × (pages ≡ old.pages.size + 1) × (IsTrue old.tells → IsGood old.pages 1 × (first_trunk old.pages ≡ 0))

-- why a page was not given, and what stands then
abbrev pub GiveRefused : SpaceState → SpaceState → ℕ → SpaceFault → Type 0
GiveRefused old new number Failed = Rose old.faults new.faults × GiveStops old new number
GiveRefused old new number Memory = GiveStops old new number
GiveRefused old new number (Bad page kept found) = MeetsBad old new (λ pages asked. GiveAsks pages number asked) page kept found
GiveRefused old new number (Corrupt page) = Stays old new × (IsTrue old.tells → GiveBreaks old.pages page)
GiveRefused old new number (Large pages) = ⊥

-- the space says that it was changed, or nothing has changed; so where it said so before, it still does
abbrev pub NotesChange : SpaceState → SpaceState → Type 0
NotesChange old new = IsTrue new.changed ⊎ Stays old new
