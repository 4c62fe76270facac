-- Words for the steps inside the crate; no contract of a function that it shows to others needs them.
use Rattle.std.specs.Prelude.{◌≡◌, ◌⊎◌, ℕ, nat_lt, List, [], ◌∷◌, ◌++◌, length, Some, IsTrue}
use Rattle.std.specs.Ordering.{nat_cmp}
use Rattle.std.specs.BTreeSet.{BTreeSet, contains}
use Rattle.byte_base.specs.Count.{Rose}
use Rattle.byte_base.specs.Numbers.{number_at}
use Rattle.page_list.specs.Pages.{HasPage, IsGood, Among, times}
use Rattle.page_pool.specs.Space.{SpaceState, Steady}
use Rattle.db_format.specs.declared.fault.SpaceFault.{SpaceFault}
use Rattle.db_format.specs.declared.fault.SpaceFault.TheVariants.{Failed, Memory, Bad, Corrupt, Large}
use Rattle.payload_chain.specs.Chains.{PutRefused, OnlyThese, with_chain, first_of}
use Rattle.payload_chain.specs.declared.walk.Walk.{Walk}

-- the set has the numbers of the list
pub record HasMet (met : BTreeSet ℕ) (numbers : List ℕ) : Type 0 where
  pub each : (number : ℕ) → contains nat_cmp met number ≡ nat_lt 0 (times number numbers)

-- a walk that begins
pub record Begins (walk : Walk) (first : ℕ) : Type 0 where
  pub none : walk.numbers.items ≡ []
  pub met : HasMet walk.met walk.numbers.items
  pub holds : walk.holder ≡ first
  pub next_is : walk.next ≡ first

-- a walk has come one page further, and the page is in the buffer
pub record StepsOn (s : SpaceState) (walk after : Walk) (page : List ℕ) : Type 0 where
  pub numbers_grow : after.numbers.items ≡ walk.numbers.items ++ walk.next ∷ []
  pub met_too : HasMet after.met after.numbers.items
  pub holds : after.holder ≡ walk.next
  pub next_is : after.next ≡ number_at 4 page 0
  pub there : HasPage s.pages walk.next
  pub again : ¬ (Among walk.numbers.items walk.next)
  pub one_page : length page ≡ s.page_size
  pub good : IsTrue s.tells → IsGood s.pages walk.next
  pub holds_page : IsTrue s.tells → page ≡ s.pages.bytes walk.next

-- why it could not
abbrev pub StepRefused : SpaceState → SpaceState → Walk → SpaceFault → Type 0
StepRefused old new walk Failed = Rose old.faults new.faults
StepRefused old new walk Memory = Unit {0}
StepRefused old new walk (Bad page kept found) =
    (page ≡ walk.next) × HasPage old.pages page × ¬ (Among walk.numbers.items page) × (IsTrue old.tells → old.pages.bad page ≡ Some (kept, found))
StepRefused old new walk (Corrupt page) =
    (¬ (HasPage old.pages walk.next) × (page ≡ walk.holder)) ⊎ (Among walk.numbers.items walk.next × (page ≡ walk.next))
StepRefused old new walk (Large pages) = ⊥

-- bytes were put behind those that were there
pub record IsBehind (before after : List ℕ) : Type 0 where
  pub more : List ℕ
  pub behind : after ≡ before ++ more

-- the bytes were put to these pages, none of which was bad
pub record PutEach (old new : SpaceState) (numbers rest : List ℕ) (first : ℕ) : Type 0 where
  pub steady : Steady old new
  pub size : new.pages.size ≡ old.pages.size
  pub change : IsTrue new.changed
  pub is : first ≡ first_of numbers
  pub good : IsTrue old.tells → (number : ℕ) → Among numbers number → IsGood old.pages number
  pub pages_are : IsTrue old.tells → new.pages ≡ with_chain old.page_size numbers rest old.pages

-- one of these pages could not be put, and no other has changed
pub record StopsPuttingEach (old new : SpaceState) (numbers : List ℕ) (fault : SpaceFault) : Type 0 where
  pub size : new.pages.size ≡ old.pages.size
  pub only : IsTrue old.tells → OnlyThese old.pages new.pages numbers
  pub refused : PutRefused old new numbers fault
