-- What reading, freeing and writing an overflow chain answer and leave. What they leave of the pages is a function of
-- them: takes, gives and written pages, one after the other.
-- After sqlite.org, "Database File Format", section 1.6, "Cell Payload Overflow Pages", and 1.5, "The Freelist".
use Rattle.std.specs.Prelude.{◌≡◌, ◌⊎◌, ℕ, zero, suc, ◌+◌, ◌-◌, ◌≤◌, ◌<◌, Bool, List, [], ◌∷◌, ◌++◌, length, take, drop, replicate, IsTrue, Some, ⊤}
use Rattle.std.specs.List.{flat_map}
use Rattle.byte_base.specs.Count.{Rose}
use Rattle.byteorder.specs.Endian.{big_bytes}
use Rattle.page_list.specs.Pages.{Pages, HasPage, IsGood, SamePage, Among, AllDifferent, AreSized}
use Rattle.page_list.specs.Freelist.{HasHead}
use Rattle.page_list.specs.Chain.{IsChain, BreaksAt, FailsAt, pages_needed, piece}
use Rattle.page_list.specs.Edits.{with_page, taken_number, after_take, taken_numbers, after_takes, after_give, after_gives}
use Rattle.page_pool.specs.Space.{SpaceState, Stays, Steady}
use Rattle.page_pool.specs.Pool.{TakeRefused, GiveRefused, HasNoRoom}
use Rattle.db_format.specs.declared.fault.SpaceFault.{SpaceFault}
use Rattle.db_format.specs.declared.fault.SpaceFault.TheVariants.{Failed, Memory, Bad, Corrupt, Large}

-- what a space is between two steps of a call: its pages, whether they were changed, and the count of faults. All else
-- is as when the call began
pub record Midway : Type 0 where
  pub pages : Pages
  pub changed : Bool
  pub faults : ℕ

abbrev pub midway : SpaceState → Midway → SpaceState
midway s met = record s { pages = met.pages; changed = met.changed; faults = met.faults }

-- the chain of so many bytes is there, and they were put behind the bytes that were there before
pub record Found (pages : Pages) (first len : ℕ) (before after : List ℕ) : Type 0 where
  pub numbers : List ℕ
  pub payload : List ℕ
  pub chain : IsChain pages first numbers payload
  pub long : length payload ≡ len
  pub behind : after ≡ before ++ payload

-- why a chain could not be read: Bad where a page of it fails, Corrupt where it is broken
abbrev pub ReadRefused : SpaceState → SpaceState → ℕ → ℕ → SpaceFault → Type 0
ReadRefused old new first len Failed = Rose old.faults new.faults
ReadRefused old new first len Memory = Unit {0}
ReadRefused old new first len (Bad page kept found) = IsTrue old.tells → FailsAt old.pages first len page (kept, found)
ReadRefused old new first len (Corrupt page) = IsTrue old.tells → BreaksAt old.pages first len page
ReadRefused old new first len (Large pages) = ⊥

-- each of the numbers is a page's
pub record HasEach (pages : Pages) (numbers : List ℕ) : Type 0 where
  pub each : (number : ℕ) → Among numbers number → HasPage pages number

-- as many pages as the chain of so many bytes needs, all there; where it is told, they are the chain's
pub record HasPages (s : SpaceState) (first len : ℕ) (numbers : List ℕ) : Type 0 where
  pub there : HasEach s.pages numbers
  pub enough : length numbers ≡ pages_needed s.pages.usable len
  pub payload : List ℕ
  pub long : length payload ≡ len
  pub chain : IsTrue s.tells → IsChain s.pages first numbers payload

-- each of these pages may be given, when those before it are: the head of the freelist is not damaged then, nor the
-- page where it becomes a trunk
abbrev pub MayGiveEach : ℕ → List ℕ → Pages → Type 0
MayGiveEach page_size [] pages = ⊤
MayGiveEach page_size (number ∷ more) pages =
    HasHead pages × (HasNoRoom pages → IsGood pages number) × MayGiveEach page_size more (after_give page_size number pages)

-- these pages were given, one after the other
pub record GaveEach (old new : SpaceState) (numbers : List ℕ) : Type 0 where
  pub steady : Steady old new
  pub size : new.pages.size ≡ old.pages.size
  pub may : IsTrue old.tells → MayGiveEach old.page_size numbers old.pages
  pub pages_are : IsTrue old.tells → new.pages ≡ after_gives old.page_size numbers old.pages

-- all of these pages were given
pub record GaveAll (old new : SpaceState) (numbers : List ℕ) : Type 0 where
  pub gave : GaveEach old new numbers
  pub change : 1 ≤ length numbers → IsTrue new.changed

-- some of these pages were given, and the next was refused
pub record StopsGivingEach (old new : SpaceState) (numbers : List ℕ) (fault : SpaceFault) : Type 0 where
  pub given : List ℕ
  pub number : ℕ
  pub more : List ℕ
  pub are : numbers ≡ given ++ number ∷ more
  pub met : Midway
  pub gave : GaveEach old (midway old met) given
  pub refused : GiveRefused (midway old met) new number fault

-- the chain of so many bytes was there, and its pages were given, in order
pub record Freed (old new : SpaceState) (first len : ℕ) : Type 0 where
  pub numbers : List ℕ
  pub payload : List ℕ
  pub chain : IsTrue old.tells → IsChain old.pages first numbers payload
  pub long : length payload ≡ len
  pub gave : GaveEach old new numbers
  pub change : 1 ≤ len → IsTrue new.changed

-- the chain was there, and of its pages some were given and the next was refused
pub record StopsFreeing (old new : SpaceState) (first len : ℕ) (fault : SpaceFault) : Type 0 where
  pub given : List ℕ
  pub number : ℕ
  pub more : List ℕ
  pub payload : List ℕ
  pub chain : IsTrue old.tells → IsChain old.pages first (given ++ number ∷ more) payload
  pub long : length payload ≡ len
  pub met : Midway
  pub gave : GaveEach old (midway old met) given
  pub refused : GiveRefused (midway old met) new number fault

-- why a chain could not be freed, and what stands then: nothing has changed where it cannot be read
abbrev pub FreeRefused : SpaceState → SpaceState → ℕ → ℕ → SpaceFault → Type 0
FreeRefused old new first len fault = (Stays old new × ReadRefused old new first len fault) ⊎ StopsFreeing old new first len fault

-- so many pages may be taken, one after the other
abbrev pub MayTakeEach : ℕ → ℕ → Pages → Type 0
MayTakeEach page_size zero pages = ⊤
MayTakeEach page_size (suc count) pages =
    HasHead pages × HasPage (after_take page_size pages) (taken_number pages) × MayTakeEach page_size count (after_take page_size pages)

-- so many pages were taken, one after the other
pub record TookEach (old new : SpaceState) (count : ℕ) : Type 0 where
  pub steady : Steady old new
  pub no_fewer : old.pages.size ≤ new.pages.size
  pub no_more : new.pages.size ≤ old.pages.size + count
  pub may : IsTrue old.tells → MayTakeEach old.page_size count old.pages
  pub pages_are : IsTrue old.tells → new.pages ≡ after_takes old.page_size count old.pages

-- these pages were taken, as many as that
pub record TookThese (old new : SpaceState) (count : ℕ) (numbers : List ℕ) : Type 0 where
  pub took : TookEach old new count
  pub many : length numbers ≡ count
  pub there : HasEach new.pages numbers
  pub are : IsTrue old.tells → numbers ≡ taken_numbers old.page_size count old.pages

-- a page of a chain: the number of the next, some bytes, and zeros behind them
abbrev pub chain_page : ℕ → ℕ → List ℕ → List ℕ
chain_page page_size next bytes = big_bytes 4 next ++ (bytes ++ replicate (page_size - (4 + length bytes)) 0)

-- the first of some pages, 0 for none
abbrev pub first_of : List ℕ → ℕ
first_of [] = 0
first_of (number ∷ more) = number

-- the pages with a chain of bytes in these pages, which are written from the last to the first
abbrev pub with_chain : ℕ → List ℕ → List ℕ → Pages → Pages
with_chain page_size [] bytes pages = pages
with_chain page_size (number ∷ more) bytes pages =
    with_page number (chain_page page_size (first_of more) (take (pages.usable - 4) bytes))
    (with_chain page_size more (drop (pages.usable - 4) bytes) pages)

-- as many pages as the bytes need were taken, none of them bad, and the bytes written to them
pub record Wrote (old new : SpaceState) (first : ℕ) (payload : List ℕ) : Type 0 where
  pub met : Midway
  pub took : TookEach old (midway old met) (pages_needed old.pages.usable (length payload))
  pub size : new.pages.size ≡ met.pages.size
  pub change : IsTrue new.changed
  pub within : HasPage new.pages first
  pub is : IsTrue old.tells → first ≡ taken_number old.pages
  pub good : IsTrue old.tells → (number : ℕ) → Among (taken_numbers old.page_size (pages_needed old.pages.usable (length payload)) old.pages) number → IsGood met.pages number
  pub pages_are : IsTrue old.tells
      → new.pages ≡ with_chain old.page_size (taken_numbers old.page_size (pages_needed old.pages.usable (length payload)) old.pages) payload met.pages

-- fewer pages than the bytes need were taken, and the next take was refused
pub record StopsTaking (old new : SpaceState) (needed : ℕ) (fault : SpaceFault) : Type 0 where
  pub count : ℕ
  pub fewer : count < needed
  pub met : Midway
  pub took : TookEach old (midway old met) count
  pub refused : TakeRefused (midway old met) new fault

-- no page but these has changed, and none was added
pub record OnlyThese (old new : Pages) (numbers : List ℕ) : Type 0 where
  pub size : new.size ≡ old.size
  pub each : (number : ℕ) → ¬ (Among numbers number) → SamePage old new number

-- why one of these pages could not be put
abbrev pub PutRefused : SpaceState → SpaceState → List ℕ → SpaceFault → Type 0
PutRefused old new numbers Failed = Rose old.faults new.faults
PutRefused old new numbers Memory = Unit {0}
PutRefused old new numbers (Bad page kept found) = IsTrue old.tells → Among numbers page × (old.pages.bad page ≡ Some (kept, found))
PutRefused old new numbers (Corrupt page) = ⊥
PutRefused old new numbers (Large pages) = ⊥

-- all pages were taken, and one of them could not be put: none but these has changed after that
pub record StopsPutting (old new : SpaceState) (needed : ℕ) (fault : SpaceFault) : Type 0 where
  pub met : Midway
  pub took : TookEach old (midway old met) needed
  pub size : new.pages.size ≡ met.pages.size
  pub only : IsTrue old.tells → OnlyThese met.pages new.pages (taken_numbers old.page_size needed old.pages)
  pub refused : PutRefused (midway old met) new (taken_numbers old.page_size needed old.pages) fault

-- why a chain could not be written, and what stands then
abbrev pub WriteRefused : SpaceState → SpaceState → List ℕ → SpaceFault → Type 0
WriteRefused old new payload fault =
    StopsTaking old new (pages_needed old.pages.usable (length payload)) fault ⊎ StopsPutting old new (pages_needed old.pages.usable (length payload)) fault

-- the chain is in these pages and holds these bytes, and zeros behind them
pub record IsWritten (pages : Pages) (first : ℕ) (numbers payload : List ℕ) : Type 0 where
  pub chain : IsChain pages first numbers payload
  pub behind : ℕ
  pub zeros : flat_map (piece pages) numbers ≡ payload ++ replicate behind 0

-- bytes written to as many pages as they need, all different, are a chain there, and no other page changes
abbrev pub ChainWritten : Type 0
ChainWritten = (page_size : ℕ) (pages : Pages) (numbers payload : List ℕ) → AreSized page_size pages → AllDifferent numbers
    → ((number : ℕ) → Among numbers number → HasPage pages number) → length numbers ≡ pages_needed pages.usable (length payload)
    → IsWritten (with_chain page_size numbers payload pages) (first_of numbers) numbers payload × OnlyThese pages (with_chain page_size numbers payload pages) numbers

-- what was written comes back: reading gives the bytes, and the chain neither breaks nor fails anywhere, so that reading
-- is refused only where the device failed or memory was missing; and freeing gives just the pages that were written
pub record WrittenComesBack : Type 0 where
  pub read : (pages : Pages) (first : ℕ) (numbers payload before after : List ℕ) → IsWritten pages first numbers payload
      → Found pages first (length payload) before after → after ≡ before ++ payload
  pub whole : (pages : Pages) (first page : ℕ) (numbers payload : List ℕ) → IsWritten pages first numbers payload → ¬ (BreaksAt pages first (length payload) page)
  pub good : (pages : Pages) (first page : ℕ) (sums : ℕ × ℕ) (numbers payload : List ℕ) → IsWritten pages first numbers payload
      → ¬ (FailsAt pages first (length payload) page sums)
  pub freed : (pages : Pages) (first : ℕ) (numbers given payload bytes : List ℕ) → IsWritten pages first numbers payload
      → IsChain pages first given bytes → length bytes ≡ length payload → given ≡ numbers
