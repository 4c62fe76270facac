-- A tree given back: what it leaves of pages of any bytes, and of whole ones.
-- After sqlite.org, "Database File Format", sections 1.5, "The Freelist", and 1.6, "B-tree Pages".
use Rattle.std.specs.Prelude.{◌≡◌, ◌⊎◌, ℕ, zero, suc, ◌+◌, List, ◌∷◌, ◌++◌, length, IsTrue, ⊤}
use Rattle.db_format.specs.declared.fault.SpaceFault.{SpaceFault}
use Rattle.page_list.specs.Pages.{Pages, HasPage, Among, AllDifferent}
use Rattle.page_list.specs.Freelist.{Trunk, free_pages}
use Rattle.page_pool.specs.Space.{SpaceState, Stays}
use Rattle.page_pool.specs.Pool.{GiveRefused}
use Rattle.payload_chain.specs.Chains.{Midway, midway, GaveEach}
use Rattle.tree_page.specs.declared.cell.LeafCell.{LeafCell}
use Rattle.tree_page.specs.declared.cell.InnerCell.{InnerCell}
use Rattle.tree_page.specs.declared.cell.PageCells.TheVariants.{Leaf as LeafPage, Interior as InteriorPage}
use Rattle.tree_model.specs.Tree.{Tree, Leaf, Child, Right, root_of, pages_of}
use Rattle.tree_model.specs.Held.{HasCells, Holds}
use Rattle.tree_model.specs.Whole.{most_depth, IsWholeFor, named_pages}
use Rattle.tree_model.specs.Walk.{IsFault, BreaksChain, FailsChain, all_children}
use Rattle.tree_model.specs.declared.ends.Fault.{Fault}
use Rattle.tree_model.specs.declared.ends.Fault.TheVariants.{Broken}
use Rattle.tree_search.specs.Search.{SearchRefused, IsNoDamage}
use Rattle.tree_laws.specs.Front.{FreelistFront}
use Rattle.tree_laws.specs.Whole.{StaysUnnamed}

-- no leaf lies deeper than so many pages, the top counted
abbrev pub IsShallow : ℕ → Tree → Type 0
IsShallow zero tree = ⊥
IsShallow (suc left) (Leaf page rows) = ⊤
IsShallow (suc left) (Child child key more) = IsShallow left child × IsShallow (suc left) more
IsShallow (suc left) (Right page child) = IsShallow left child

-- the pages hold a tree from a root, and each of its pages stands in it once and is not page 1, which has the header
pub record HoldsFrom (pages : Pages) (root : ℕ) (tree : Tree) : Type 0 where
  pub rooted : root_of tree ≡ root
  pub held : Holds pages tree
  pub shallow : IsShallow most_depth tree
  pub different : AllDifferent (1 ∷ pages_of tree)

-- the tree was there, and its pages were given, in tree order
pub record TreeFreed (old new : SpaceState) (root : ℕ) : Type 0 where
  pub tree : Tree
  pub from : IsTrue old.tells → HoldsFrom old.pages root tree
  pub gave : GaveEach old new (pages_of tree)

-- the tree was there, and of its pages some were given and the next was refused
pub record StopsGiving (old new : SpaceState) (root : ℕ) (fault : SpaceFault) : Type 0 where
  pub tree : Tree
  pub from : IsTrue old.tells → HoldsFrom old.pages root tree
  pub given : List ℕ
  pub number : ℕ
  pub more : List ℕ
  pub all : pages_of tree ≡ given ++ number ∷ more
  pub met : Midway
  pub gave : GaveEach old (midway old met) given
  pub refused : GiveRefused (midway old met) new number fault

-- the chain of a cell of a leaf cannot be read
abbrev pub ChainMeets : Pages → ℕ → LeafCell → Fault → Type 0
ChainMeets pages leaf cell fault = BreaksChain pages leaf cell fault ⊎ FailsChain pages cell fault

-- a page of the tree from a page, whose number stands on the page `above`, cannot be gone over, so many pages from the greatest
-- depth; or the chain of one of its rows cannot
abbrev pub TreeMeets : ℕ → Pages → ℕ → ℕ → Fault → Type 0
TreeMeets zero pages above page fault = IsFault pages 0 above page fault
TreeMeets (suc left) pages above page fault =
    IsFault pages (suc left) above page fault
    ⊎ (((cells : List LeafCell) × (cell : LeafCell) × (before behind : List LeafCell) × HasCells pages page (LeafPage cells) × (cells ≡ before ++ cell ∷ behind)
    × ChainMeets pages page cell fault)
    ⊎ ((cells : List InnerCell) × (right child : ℕ) × HasCells pages page (InteriorPage cells right) × Among (all_children cells right) child
    × TreeMeets left pages page child fault))

-- a page that is there is named twice, or is page 1: so the pages hold no tree from this root that has each page once
pub record IsShared (pages : Pages) (root page : ℕ) : Type 0 where
  pub there : HasPage pages page
  pub none : (tree : Tree) → ¬ (HoldsFrom pages root tree)

abbrev pub FreeMeets : Pages → ℕ → Fault → Type 0
FreeMeets pages root fault = TreeMeets most_depth pages root root fault ⊎ ((page : ℕ) × (fault ≡ Broken page) × IsShared pages root page)

-- why a tree was not given back, and what stands then: nothing has changed where it cannot be gone over
abbrev pub TreeRefused : SpaceState → SpaceState → ℕ → SpaceFault → Type 0
TreeRefused old new root fault = (Stays old new × SearchRefused old new (FreeMeets old.pages root) fault) ⊎ StopsGiving old new root fault

-- Of whole pages: they are whole for the other roots, whose trees are the same; the freelist has the pages of the tree more; and what
-- nothing named stays as it was
pub record IsRootFreed (old new : Pages) (ahead after : List ℕ) (root : ℕ) (before behind : List Tree) (tree : Tree) (trunks : List Trunk) : Type 0 where
  pub trunks' : List Trunk
  pub whole : IsWholeFor new (ahead ++ after) (before ++ behind) trunks'
  pub more_free : length (free_pages trunks') ≡ length (free_pages trunks) + length (pages_of tree)
  pub unnamed : (n : ℕ) → HasPage old n → ¬ (Among (named_pages (ahead ++ root ∷ after) (before ++ tree ∷ behind) trunks) n) →
      StaysUnnamed old new (named_pages (ahead ++ after) (before ++ behind) trunks') n
  pub none_lost : (n : ℕ) → HasPage new n → ¬ (Among (named_pages (ahead ++ after) (before ++ behind) trunks') n) →
      HasPage old n × ¬ (Among (named_pages (ahead ++ root ∷ after) (before ++ tree ∷ behind) trunks) n)
  pub size : new.size ≡ old.size
  -- of the header of the database the freelist alone has changed
  pub front : FreelistFront old new

-- whichever roots and trees they have
abbrev pub RemovesRoot : Pages → Pages → ℕ → Type 0
RemovesRoot old new root = (front back : List ℕ) (before behind : List Tree) (tree : Tree) (trunks : List Trunk) → length front ≡ length before →
    IsWholeFor old (front ++ root ∷ back) (before ++ tree ∷ behind) trunks → IsRootFreed old new front back root before behind tree trunks

-- over whole pages with this root, whichever others they have, a refusal names no page at fault
pub record IsSoundlyRefused (old : Pages) (root : ℕ) (fault : SpaceFault) : Type 0 where
  pub each : (front back : List ℕ) (before behind : List Tree) (tree : Tree) (trunks : List Trunk) → length front ≡ length before
      → IsWholeFor old (front ++ root ∷ back) (before ++ tree ∷ behind) trunks → IsNoDamage fault
