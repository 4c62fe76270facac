-- Words that only the private steps use: how far the pages of a tree are collected, and what that meets.
use Rattle.std.specs.Prelude.{◌≡◌, ◌⊎◌, ℕ, suc, ◌+◌, ◌≤◌, if◌then◌else◌, List, ◌∷◌, ◌++◌, length, map, IsTrue}
use Rattle.std.specs.List.{AllByRecursion}
use Rattle.std.specs.Ordering.{nat_cmp}
use Rattle.std.specs.BTreeSet.{BTreeSet, contains}
use Rattle.db_format.specs.declared.fault.SpaceFault.{SpaceFault}
use Rattle.db_format.specs.declared.fault.SpaceFault.TheVariants.{Failed, Memory, Bad, Corrupt, Large}
use Rattle.page_list.specs.Pages.{Pages, HasPage, times, Among}
use Rattle.page_pool.specs.Space.{SpaceState, Stays}
use Rattle.payload_chain.specs.Chains.{HasEach}
use Rattle.tree_page.specs.declared.cell.LeafCell.{LeafCell}
use Rattle.tree_page.specs.declared.cell.InnerCell.{InnerCell}
use Rattle.tree_model.specs.Tree.{Row, Tree, Leaf, root_of, pages_of}
use Rattle.tree_model.specs.Held.{HasRow, HoldsBehind, Holds}
use Rattle.tree_model.specs.Walk.{all_children}
use Rattle.tree_model.specs.declared.ends.Fault.{Fault}
use Rattle.tree_model.specs.declared.ends.Fault.TheVariants.{Broken}
use Rattle.tree_search.specs.Search.{SearchRefused}
use Rattle.tree_free.specs.Free.{IsShallow, HoldsFrom, ChainMeets, TreeMeets, FreeMeets, StopsGiving}
use Rattle.tree_free.specs.declared.collect.Collected.{Collected}

-- 1 where a set has the number, else 0
unfoldable pub met_in : BTreeSet ℕ → ℕ → ℕ
met_in met number = if contains nat_cmp met number then 1 else 0

-- a set has these numbers more, none of which it had, and no one twice
pub record MetMore (old new : BTreeSet ℕ) (numbers : List ℕ) : Type 0 where
  pub each : (n : ℕ) → met_in new n ≡ met_in old n + times n numbers

-- so have the pages collected, which are more by these
pub record Grown (old new : Collected) (numbers : List ℕ) : Type 0 where
  pub behind : new.numbers.items ≡ old.numbers.items ++ numbers
  pub met_more : MetMore old.met new.met numbers
  pub as_long : length new.buffer.items ≡ length old.buffer.items

-- why they have not: one of these was met before, or stands among them twice
abbrev pub MeetRefused : BTreeSet ℕ → List ℕ → SpaceFault → Type 0
MeetRefused met numbers Failed = ⊥
MeetRefused met numbers Memory = Unit {0}
MeetRefused met numbers (Bad page kept found) = ⊥
MeetRefused met numbers (Corrupt page) = Among numbers page × (2 ≤ met_in met page + times page numbers)
MeetRefused met numbers (Large pages) = ⊥

-- a tree from a page was gone over, so many pages from the greatest depth
pub record GoneOver (s : SpaceState) (left page : ℕ) (old new : Collected) : Type 0 where
  pub tree : Tree
  pub rooted : root_of tree ≡ page
  pub shallow : IsShallow left tree
  pub grown : Grown old new (pages_of tree)
  pub there : HasEach s.pages (pages_of tree)
  pub held : IsTrue s.tells → Holds s.pages tree

-- a page that is there was met, or stands twice in any tree from this page
pub record IsTwice (pages : Pages) (page : ℕ) (met : BTreeSet ℕ) (fault : Fault) : Type 0 where
  pub number : ℕ
  pub named : fault ≡ Broken number
  pub there : HasPage pages number
  pub twice : (tree : Tree) → Holds pages tree → root_of tree ≡ page → 2 ≤ met_in met number + times number (pages_of tree)

-- why it was not. At a depth that is a numeral this record is not opened
pub record WalkMeets (left : ℕ) (pages : Pages) (above page : ℕ) (met : BTreeSet ℕ) (fault : Fault) : Type 0 where
  pub meets : TreeMeets left pages above page fault ⊎ IsTwice pages page met fault

-- a leaf and the chains of its first rows were gone over
pub record LeafGone (s : SpaceState) (page : ℕ) (cells : List LeafCell) (old new : Collected) : Type 0 where
  pub rows : List Row
  pub cells_are : map (λ row. row.cell) rows ≡ cells
  pub grown : Grown old new (pages_of (Leaf page rows))
  pub there : HasEach s.pages (pages_of (Leaf page rows))
  pub held : IsTrue s.tells → AllByRecursion (HasRow s.pages) rows

-- why they were not: the chain of a cell, or a page met before
pub record CellMeets (pages : Pages) (page : ℕ) (cells : List LeafCell) (fault : Fault) : Type 0 where
  pub cell : LeafCell
  pub before : List LeafCell
  pub behind : List LeafCell
  pub among : cells ≡ before ++ cell ∷ behind
  pub meets : ChainMeets pages page cell fault

pub record RowsTwice (pages : Pages) (page : ℕ) (cells : List LeafCell) (met : BTreeSet ℕ) (fault : Fault) : Type 0 where
  pub number : ℕ
  pub named : fault ≡ Broken number
  pub there : HasPage pages number
  pub twice : (rows : List Row) → map (λ row. row.cell) rows ≡ cells → AllByRecursion (HasRow pages) rows → 2 ≤ met_in met number + times number (pages_of (Leaf page rows))

abbrev pub LeafMeets : Pages → ℕ → List LeafCell → BTreeSet ℕ → Fault → Type 0
LeafMeets pages page cells met fault = CellMeets pages page cells fault ⊎ RowsTwice pages page cells met fault

-- with any tree behind the children that were gone over they are a whole one
pub record Joined (s : SpaceState) (left : ℕ) (front : List InnerCell) (gone : List ℕ) (rest : Tree) : Type 0 where
  pub tree : Tree
  pub rooted : root_of tree ≡ root_of rest
  pub pages_are : pages_of tree ≡ gone ++ pages_of rest
  pub shallow : IsShallow (suc left) rest → IsShallow (suc left) tree
  pub held : IsTrue s.tells → HoldsBehind s.pages front rest → Holds s.pages tree

-- and any tree from the page begins with them
pub record Opened (pages : Pages) (page : ℕ) (front : List InnerCell) (gone : List ℕ) (tree : Tree) : Type 0 where
  pub rest : Tree
  pub rooted : root_of rest ≡ page
  pub pages_are : pages_of tree ≡ gone ++ pages_of rest
  pub held : HoldsBehind pages front rest

-- the first children of an interior page were gone over: the page is met, and not yet among the pages collected
pub record ChildrenGone (s : SpaceState) (left page : ℕ) (front : List InnerCell) (old new : Collected) : Type 0 where
  pub gone : List ℕ
  pub behind : new.numbers.items ≡ old.numbers.items ++ gone
  pub met_more : MetMore old.met new.met (page ∷ gone)
  pub as_long : length new.buffer.items ≡ length old.buffer.items
  pub there : HasEach s.pages gone
  pub joins : (rest : Tree) → Joined s left front gone rest
  pub opens : IsTrue s.tells → (tree : Tree) → Holds s.pages tree → root_of tree ≡ page → Opened s.pages page front gone tree

-- why the next was not
pub record ChildMeets (left : ℕ) (pages : Pages) (page : ℕ) (cells : List InnerCell) (right : ℕ) (fault : Fault) : Type 0 where
  pub child : ℕ
  pub among : Among (all_children cells right) child
  pub meets : TreeMeets left pages page child fault

abbrev pub ChildrenMeet : ℕ → Pages → ℕ → List InnerCell → ℕ → BTreeSet ℕ → Fault → Type 0
ChildrenMeet left pages page cells right met fault = ChildMeets left pages page cells right fault ⊎ IsTwice pages page met fault

-- all pages of the tree from a root
pub record HasTree (s : SpaceState) (root : ℕ) (numbers : List ℕ) : Type 0 where
  pub tree : Tree
  pub all : numbers ≡ pages_of tree
  pub there : HasEach s.pages numbers
  pub from : IsTrue s.tells → HoldsFrom s.pages root tree

-- why they were not collected, and why they were not given
pub record FreeFails (pages : Pages) (root : ℕ) (fault : Fault) : Type 0 where
  pub meets : FreeMeets pages root fault

abbrev pub FreeStops : SpaceState → SpaceState → ℕ → SpaceFault → Type 0
FreeStops old new root fault = (Stays old new × SearchRefused old new (FreeFails old.pages root) fault) ⊎ StopsGiving old new root fault
