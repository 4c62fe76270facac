-- A new root: what it leaves of pages of any bytes.
-- After sqlite.org, "Database File Format", section 1.6, "B-tree Pages".
use Rattle.std.specs.Prelude.{◌≡◌, ◌⊎◌, ℕ, ◌+◌, ◌≤◌, max, List, [], ◌∷◌, ◌++◌, length, take, IsTrue}
use Rattle.db_format.specs.declared.fault.SpaceFault.{SpaceFault}
use Rattle.page_list.specs.Pages.{Pages, HasPage, IsGood, Among}
use Rattle.page_list.specs.Freelist.{Trunk, HasHead, take_each}
use Rattle.page_list.specs.Edits.{taken_number, after_take}
use Rattle.page_pool.specs.Space.{SpaceState}
use Rattle.page_pool.specs.Pool.{Grows, Taken, TakeRefused}
use Rattle.payload_chain.specs.Chains.{Midway, midway, OnlyThese, PutRefused}
use Rattle.tree_page.specs.declared.cell.PageCells.TheVariants.{Leaf as LeafPage}
use Rattle.tree_model.specs.Tree.{Tree, Leaf}
use Rattle.tree_model.specs.Whole.{IsWholeFor, named_pages}
use Rattle.tree_model.specs.Need.{use_of}
use Rattle.tree_laws.specs.Front.{FreelistFront}
use Rattle.tree_laws.specs.Whole.{StaysUnnamed, missing_in}
use Rattle.tree_model.specs.Held.{HasCells}

-- a leaf without a row was written to a page: no other page has changed, and page 1 keeps the header of the database
pub record EmptyLeaf (old new : Pages) (number : ℕ) : Type 0 where
  pub cells : HasCells new number (LeafPage [])
  pub only : OnlyThese old new (number ∷ [])
  pub used : new.usable ≡ old.usable
  pub front : take 100 (new.bytes 1) ≡ take 100 (old.bytes 1)
  pub good : (n : ℕ) → IsGood old n → IsGood new n

pub record EmptyWritten (old new : SpaceState) (number : ℕ) : Type 0 where
  pub size : new.pages.size ≡ old.pages.size
  pub change : IsTrue new.changed
  pub leaf : IsTrue old.tells → EmptyLeaf old.pages new.pages number

-- why it was not: no page but this one has changed
pub record EmptyRefused (old new : SpaceState) (number : ℕ) (fault : SpaceFault) : Type 0 where
  pub size : new.pages.size ≡ old.pages.size
  pub only : IsTrue old.tells → OnlyThese old.pages new.pages (number ∷ [])
  pub refused : PutRefused old new (number ∷ []) fault

-- a page was taken, and a leaf without a row written to it
pub record RootMade (old new : SpaceState) (number : ℕ) : Type 0 where
  pub within : HasPage new.pages number
  pub grows : Grows old new
  pub head : IsTrue old.tells → HasHead old.pages
  pub is : IsTrue old.tells → number ≡ taken_number old.pages
  pub leaf : IsTrue old.tells → EmptyLeaf (after_take old.page_size old.pages) new.pages number

-- a page was taken, and the leaf was not written
pub record StopsAtRoot (old new : SpaceState) (fault : SpaceFault) : Type 0 where
  pub number : ℕ
  pub met : Midway
  pub taken : Taken old (midway old met) number
  pub refused : EmptyRefused (midway old met) new number fault

-- why there is no new root, and what stands then
abbrev pub RootRefused : SpaceState → SpaceState → SpaceFault → Type 0
RootRefused old new fault = TakeRefused old new fault ⊎ StopsAtRoot old new fault

-- A root more in whole pages: they are whole with a tree without a row more; all other trees are the same, and the freelist has lost
-- the page where it had it. What nothing named stays as it was, no page is lost, and there are no more pages than before, or than
-- those in use, those that nothing named, and this one
pub record IsRootAdded (old new : Pages) (number : ℕ) (roots : List ℕ) (trees : List Tree) (trunks : List Trunk) : Type 0 where
  pub whole : IsWholeFor new (roots ++ number ∷ []) (trees ++ Leaf number [] ∷ []) (take_each 1 trunks)
  pub unnamed : (n : ℕ) → HasPage old n → ¬ (Among (named_pages roots trees trunks) n)
      → StaysUnnamed old new (named_pages (roots ++ number ∷ []) (trees ++ Leaf number [] ∷ []) (take_each 1 trunks)) n
  pub none_lost : (n : ℕ) → HasPage new n → ¬ (Among (named_pages (roots ++ number ∷ []) (trees ++ Leaf number [] ∷ []) (take_each 1 trunks)) n)
      → HasPage old n × ¬ (Among (named_pages roots trees trunks) n)
  -- of the header of the database the freelist alone has changed
  pub front : FreelistFront old new
  pub bound : new.size ≤ max old.size (length (missing_in (named_pages roots trees trunks) old.size) + use_of roots trees + 1)

-- over whole pages, whichever roots and trees they have, there is one root more; of any pages there are no fewer
pub record AddsRoot (old new : Pages) (number : ℕ) : Type 0 where
  pub no_fewer : old.size ≤ new.size
  pub each : (roots : List ℕ) (trees : List Tree) (trunks : List Trunk) → IsWholeFor old roots trees trunks → IsRootAdded old new number roots trees trunks
