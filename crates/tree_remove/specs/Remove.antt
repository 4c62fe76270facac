-- A removal as a whole: what it leaves of pages of any bytes.
-- After sqlite.org, "Database File Format", section 1.6, "B-tree Pages".
use Rattle.std.specs.Prelude.{◌≡◌, ◌⊎◌, ℕ, ◌+◌, ◌≤◌, Bool, true, false, ℤ, List, [], ◌∷◌, ◌++◌, length, reverse, Option, Some, None, IsTrue, Err}
use Rattle.std.specs.List.{AllByRecursion}
use Rattle.page_list.specs.Pages.{Pages, HasPage}
use Rattle.page_list.specs.Chain.{IsChain}
use Rattle.page_list.specs.Edits.{taken_numbers, after_takes, after_gives}
use Rattle.page_pool.specs.Space.{SpaceState, Steady, Stays}
use Rattle.payload_chain.specs.Chains.{Midway, midway, MayTakeEach, MayGiveEach, StopsGivingEach, FreeRefused, PutRefused}
use Rattle.db_format.specs.declared.fault.SpaceFault.{SpaceFault}
use Rattle.db_format.specs.declared.fault.SpaceFault.TheVariants.{Memory}
use Rattle.tree_page.specs.declared.cell.LeafCell.{LeafCell}
use Rattle.tree_page.specs.declared.cell.PageCells.{PageCells}
use Rattle.tree_page.specs.declared.cell.PageCells.TheVariants.{Interior}
use Rattle.tree_page.specs.Written.{Fits}
use Rattle.tree_model.specs.declared.ends.PathEnd.TheVariants.{Ends}
use Rattle.tree_model.specs.Held.{HasCells}
use Rattle.tree_model.specs.Walk.{Path, IsFault, rest_of}
use Rattle.page_cut.specs.declared.parts.Sheet.{Sheet}
use Rattle.tree_level.specs.Level.{numbers}
use Rattle.tree_plan.specs.Plan.{cell_of}
use Rattle.tree_plan.specs.Climb.{on}
use Rattle.tree_write.specs.Write.{Wrote, MayStand, WriteLeaves}
use Rattle.tree_search.specs.declared.path.Descent.{Descent}
use Rattle.tree_search.specs.Search.{Descends, SearchRefused}
use Rattle.tree_join.specs.declared.leaf.Taken.{Taken}
use Rattle.tree_join.specs.declared.level.Left.{Left}
use Rattle.tree_join.specs.Leaf.{IsTakenOut}
use Rattle.tree_join.specs.Join.{IsLeafLeft}
use Rattle.tree_remove.specs.declared.upward.Shrunk.{Shrunk}
use Rattle.tree_remove.specs.Shrink.{AreShrunk, ShrunkTo, ShrinkRefused}

-- the root gets the cells of its one child, which goes then; where they do not fit, it stands over the child without a cell
abbrev pub GetsCells : Pages → Pages → ℕ → ℕ → PageCells → List ℕ → Type 0
GetsCells old new root child cells lost =
    (Fits cells root old.usable × (lost ≡ child ∷ []) × Wrote old new (on root cells ∷ []))
    ⊎ (¬ (Fits cells root old.usable) × (lost ≡ []) × Wrote old new (on root (Interior [] child) ∷ []))

abbrev pub IsTakenOver : Pages → Pages → ℕ → Option ℕ → List ℕ → Type 0
IsTakenOver old new root None lost = (new ≡ old) × (lost ≡ [])
IsTakenOver old new root (Some child) lost = (cells : PageCells) × HasCells old child cells × GetsCells old new root child cells lost

-- these pages were given back, one after the other
pub record Gives (page_size : ℕ) (old new : Pages) (numbers : List ℕ) : Type 0 where
  pub may : MayGiveEach page_size numbers old
  pub are : new ≡ after_gives page_size numbers old

-- the sheets were written, and the root took over its one child if it has one left: these pages are to be given back then besides
pub record Rewritten (old new : Pages) (root : ℕ) (shrunk : Shrunk) (also : List ℕ) : Type 0 where
  pub written : Pages
  pub wrote : Wrote old written shrunk.out.items
  pub over : IsTakenOver written new root shrunk.over also

-- and then the pages that are lost were given back
pub record Settled (page_size : ℕ) (old new : Pages) (root : ℕ) (shrunk : Shrunk) : Type 0 where
  pub topped : Pages
  pub also : List ℕ
  pub rewritten : Rewritten old topped root shrunk also
  pub gives : Gives page_size topped new (shrunk.lost.items ++ also)

-- the space says that it was changed where the root is a page and has one child left
abbrev pub NotesOver : Pages → Bool → ℕ → Option ℕ → Type 0
NotesOver pages changed root None = Unit {0}
NotesOver pages changed root (Some child) = HasPage pages root → IsTrue changed

-- and where one of the sheets may stand, or a page is lost
pub record NotesSettled (pages : Pages) (changed : Bool) (root : ℕ) (shrunk : Shrunk) : Type 0 where
  pub sheets : AllByRecursion (λ sheet. MayStand pages sheet → IsTrue changed) shrunk.out.items
  pub over : NotesOver pages changed root shrunk.over
  pub lost : 1 ≤ length shrunk.lost.items → IsTrue changed

-- the chain of a cell was given back
pub record ChainGone (page_size : ℕ) (old new : Pages) (cell : LeafCell) : Type 0 where
  pub numbers : List ℕ
  pub payload : List ℕ
  pub chain : IsChain old cell.overflow numbers payload
  pub long : length payload ≡ rest_of cell
  pub gives : Gives page_size old new numbers

-- a row was taken out of the leaf at the end of its way: so many pages were taken, the pages of the way are what is left of them, and last the
-- chain of the row was given back
pub record Removed (page_size : ℕ) (old new : Pages) (changed : Bool) (root : ℕ) (rowid : ℤ) : Type 0 where
  pub descent : Descent
  pub found : Descends old rowid root descent.levels.items descent.leaf descent.cells
  pub taken : Taken
  pub taken_is : IsTakenOut rowid descent.cells taken
  pub left : Left
  pub left_is : IsLeafLeft descent.leaf old.usable taken.others left
  pub shrunk : Shrunk
  pub count : ℕ
  pub few : count ≤ length descent.levels.items + 3
  pub may : MayTakeEach page_size count old
  pub are : AreShrunk old descent.leaf left (reverse descent.levels.items) (taken_numbers page_size count old) shrunk.out.items shrunk.lost.items shrunk.over
  pub given : Pages
  pub settled : Settled page_size (after_takes page_size count old) given root shrunk
  pub freed : ChainGone page_size given new taken.cell
  -- the space says that it was changed where anything was written or given back
  pub notes : NotesSettled (after_takes page_size count old) changed root shrunk
  pub notes_chain : 1 ≤ rest_of taken.cell → IsTrue changed

-- no row has the rowid
pub record HasNoRow (pages : Pages) (root : ℕ) (rowid : ℤ) : Type 0 where
  pub descent : Descent
  pub found : Descends pages rowid root descent.levels.items descent.leaf descent.cells
  pub none : cell_of rowid descent.cells ≡ None

abbrev pub RemoveDone : ℕ → Pages → Pages → Bool → ℕ → ℤ → Bool → Type 0
RemoveDone page_size old new changed root rowid true = Removed page_size old new changed root rowid
RemoveDone page_size old new changed root rowid false = (new ≡ old) × HasNoRow old root rowid

-- the way was found, and what is left of it was not
pub record StopsShrinking (old new : SpaceState) (root : ℕ) (rowid : ℤ) (fault : SpaceFault) : Type 0 where
  pub descent : Descent
  pub found : IsTrue old.tells → Descends old.pages rowid root descent.levels.items descent.leaf descent.cells
  pub refused : ShrinkRefused old new descent.levels.items fault

-- the way was found and the row taken out of its leaf, and pages were taken for what is left: nothing is written but what the takes write
pub record WayShrunk (old new : SpaceState) (root : ℕ) (rowid : ℤ) (taken : Taken) (shrunk : Shrunk) : Type 0 where
  pub descent : Descent
  pub found : IsTrue old.tells → Descends old.pages rowid root descent.levels.items descent.leaf descent.cells
  pub taken_is : IsTakenOut rowid descent.cells taken
  pub left : Left
  pub left_is : IsLeafLeft descent.leaf old.pages.usable taken.others left
  pub to : ShrunkTo old new descent.leaf left descent.levels.items shrunk

-- one of the sheets was refused: only pages of the sheets have changed
pub record StopsWriting (old new : SpaceState) (sheets : List Sheet) (fault : SpaceFault) : Type 0 where
  pub size : new.pages.size ≡ old.pages.size
  pub leaves : WriteLeaves old new sheets (Err fault)
  pub refused : PutRefused old new (numbers sheets) fault

-- the cells of the one child were read, and the root was refused: no other page has changed
pub record StopsTopping (old new : SpaceState) (root child : ℕ) (fault : SpaceFault) : Type 0 where
  pub cells : PageCells
  pub has : IsTrue old.tells → HasCells old.pages child cells
  pub root_refused : StopsWriting old new (on root cells ∷ []) fault

-- the one child that the root has left cannot be gone over, and nothing has changed; or the root was refused
abbrev pub TakeOverRefused : SpaceState → SpaceState → ℕ → Option ℕ → SpaceFault → Type 0
TakeOverRefused old new root None fault = ⊥
TakeOverRefused old new root (Some child) fault =
    (Stays old new × SearchRefused old new (IsFault old.pages 1 root child) fault) ⊎ StopsTopping old new root child fault

-- all sheets were written, and the root did not take over its one child
pub record StopsTakingOver (old new : SpaceState) (root : ℕ) (shrunk : Shrunk) (fault : SpaceFault) : Type 0 where
  pub written : Midway
  pub steady : Steady old (midway old written)
  pub size : written.pages.size ≡ old.pages.size
  pub wrote : IsTrue old.tells → Wrote old.pages written.pages shrunk.out.items
  pub refused : TakeOverRefused (midway old written) new root shrunk.over fault

-- some of these pages were given back, and the next was refused; or there was no memory for their numbers, and nothing has changed
abbrev pub GivingRefused : SpaceState → SpaceState → List ℕ → SpaceFault → Type 0
GivingRefused old new numbers fault = ((fault ≡ Memory) × Stays old new) ⊎ StopsGivingEach old new numbers fault

-- all was written, and one of the pages that are lost was not given back
pub record StopsGiving (old new : SpaceState) (root : ℕ) (shrunk : Shrunk) (fault : SpaceFault) : Type 0 where
  pub topped : Midway
  pub steady : Steady old (midway old topped)
  pub size : topped.pages.size ≡ old.pages.size
  pub also : List ℕ
  pub rewritten : IsTrue old.tells → Rewritten old.pages topped.pages root shrunk also
  pub refused : GivingRefused (midway old topped) new (shrunk.lost.items ++ also) fault

-- why what is left of the way did not come onto its pages, or the pages that are lost back to the freelist, and what stands then
abbrev pub SettleRefused : SpaceState → SpaceState → ℕ → Shrunk → SpaceFault → Type 0
SettleRefused old new root shrunk fault =
    StopsWriting old new shrunk.out.items fault ⊎ (StopsTakingOver old new root shrunk fault ⊎ StopsGiving old new root shrunk fault)

-- pages were taken, and that was refused
pub record StopsSettling (old new : SpaceState) (root : ℕ) (rowid : ℤ) (fault : SpaceFault) : Type 0 where
  pub taken : Taken
  pub shrunk : Shrunk
  pub grown : Midway
  pub before : WayShrunk old (midway old grown) root rowid taken shrunk
  pub refused : SettleRefused (midway old grown) new root shrunk fault

-- all was settled, and the chain of the row was not given back
pub record StopsFreeing (old new : SpaceState) (root : ℕ) (rowid : ℤ) (fault : SpaceFault) : Type 0 where
  pub taken : Taken
  pub shrunk : Shrunk
  pub grown : Midway
  pub before : WayShrunk old (midway old grown) root rowid taken shrunk
  pub settled : Midway
  pub steady : Steady old (midway old settled)
  pub size : settled.pages.size ≡ grown.pages.size
  pub done : IsTrue old.tells → Settled old.page_size grown.pages settled.pages root shrunk
  pub refused : FreeRefused (midway old settled) new taken.cell.overflow (rest_of taken.cell) fault

-- why a removal was refused, and what stands then: nothing has changed where the search was refused
abbrev pub RemoveRefused : SpaceState → SpaceState → ℕ → ℤ → SpaceFault → Type 0
RemoveRefused old new root rowid fault =
    (Stays old new × SearchRefused old new (λ f. Path None old.pages root rowid (Ends f)) fault)
    ⊎ (StopsShrinking old new root rowid fault ⊎ (StopsSettling old new root rowid fault ⊎ StopsFreeing old new root rowid fault))
