-- A put and a new root as a whole: what they leave of pages of any bytes.
use Rattle.std.specs.Prelude.{◌≡◌, ◌⊎◌, ℕ, ◌+◌, ◌-◌, ◌*◌, ◌≤◌, ◌<◌, Bool, ℤ, List, ◌∷◌, ◌++◌, length, Option, None, is_some, IsTrue}
use Rattle.db_format.specs.Header.{greatest_length}
use Rattle.db_format.specs.declared.fault.SpaceFault.{SpaceFault}
use Rattle.db_format.specs.declared.fault.SpaceFault.TheVariants.{Failed, Memory, Bad, Corrupt, Large}
use Rattle.page_pool.specs.Space.{SpaceState, Steady, Stays}
use Rattle.page_list.specs.Pages.{Pages}
use Rattle.page_list.specs.Freelist.{Trunk}
use Rattle.payload_chain.specs.Chains.{Midway, midway}
use Rattle.tree_page.specs.declared.cell.LeafCell.{LeafCell}
use Rattle.tree_model.specs.declared.ends.PathEnd.TheVariants.{Ends}
use Rattle.tree_model.specs.Walk.{Path}
use Rattle.tree_model.specs.Tree.{Tree, root_of}
use Rattle.tree_model.specs.Whole.{IsWholeFor, named_pages}
use Rattle.tree_model.specs.Need.{use_of}
use Rattle.tree_laws.specs.Whole.{missing_in}
use Rattle.tree_put.specs.Keeps.{IsPut}
use Rattle.tree_put.specs.Large.{need_put}
use Rattle.tree_search.specs.declared.path.Descent.{Descent}
use Rattle.tree_search.specs.Search.{Descends, IsDescent, SearchRefused, IsNoDamage}
use Rattle.rowid_tree.specs.Steps.{CellWritten, CellRefused, CellPlaced, PlaceRefused, ReplacedFreed, FreeingRefused}

-- the search for the rowid found this way, and nothing has changed
pub record WayFound (old new : SpaceState) (root : ℕ) (rowid : ℤ) (descent : Descent) : Type 0 where
  pub steady : Steady old new
  pub stays : Stays old new
  pub found : IsTrue old.tells → Descends old.pages rowid root descent.levels.items descent.leaf descent.cells
  pub sound : IsDescent old.pages.size old.pages.usable descent

-- then the cell of the row was written
pub record WroteCell (old new : SpaceState) (root : ℕ) (rowid : ℤ) (payload : List ℕ) (descent : Descent) (cell : LeafCell) : Type 0 where
  pub searched : Midway
  pub way : WayFound old (midway old searched) root rowid descent
  pub wrote : CellWritten (midway old searched) new rowid payload cell

-- and put into the leaf
pub record PlacedCell (old new : SpaceState) (root : ℕ) (rowid : ℤ) (payload : List ℕ) (replaced : Option LeafCell) : Type 0 where
  pub descent : Descent
  pub cell : LeafCell
  pub written : Midway
  pub before : WroteCell old (midway old written) root rowid payload descent cell
  pub placed : CellPlaced (midway old written) new descent cell replaced

-- and the chain of the cell that it replaced was given back
pub record PutDone (old new : SpaceState) (root : ℕ) (rowid : ℤ) (payload : List ℕ) (replaced : Bool) : Type 0 where
  pub was : Option LeafCell
  pub placed : Midway
  pub before : PlacedCell old (midway old placed) root rowid payload was
  pub steady : Steady (midway old placed) new
  pub freed : ReplacedFreed (midway old placed) new was
  -- where the space said before this that it was changed, it still does
  pub noted : IsTrue placed.changed → IsTrue new.changed
  pub told : replaced ≡ is_some was

-- the way was found, and the cell was not written
pub record StopsAtCell (old new : SpaceState) (root : ℕ) (rowid : ℤ) (payload : List ℕ) (fault : SpaceFault) : Type 0 where
  pub descent : Descent
  pub searched : Midway
  pub way : WayFound old (midway old searched) root rowid descent
  pub refused : CellRefused (midway old searched) new payload fault

-- the cell was written, and not put into the leaf
pub record StopsAtLeaf (old new : SpaceState) (root : ℕ) (rowid : ℤ) (payload : List ℕ) (fault : SpaceFault) : Type 0 where
  pub descent : Descent
  pub cell : LeafCell
  pub written : Midway
  pub before : WroteCell old (midway old written) root rowid payload descent cell
  pub refused : PlaceRefused (midway old written) new descent cell fault

-- the cell was put into the leaf, and the chain of the one that it replaced was not given back
pub record StopsAtChain (old new : SpaceState) (root : ℕ) (rowid : ℤ) (payload : List ℕ) (fault : SpaceFault) : Type 0 where
  pub was : Option LeafCell
  pub placed : Midway
  pub before : PlacedCell old (midway old placed) root rowid payload was
  pub refused : FreeingRefused (midway old placed) new was fault

-- why a put was refused, and what stands then: nothing has changed where the search was refused
abbrev pub PutRefused : SpaceState → SpaceState → ℕ → ℤ → List ℕ → SpaceFault → Type 0
PutRefused old new root rowid payload fault =
    (Stays old new × SearchRefused old new (λ f. Path None old.pages root rowid (Ends f)) fault)
    ⊎ (StopsAtCell old new root rowid payload fault ⊎ (StopsAtLeaf old new root rowid payload fault ⊎ StopsAtChain old new root rowid payload fault))

-- over whole pages, where the tree from the root is one of them, the row is put: they are whole, with another tree in its place,
-- whose rows are those before with this one among them, and all that `IsPut` says of the pages beside
pub record PutsRow (old new : Pages) (root : ℕ) (rowid : ℤ) (payload : List ℕ) (replaced : Bool) : Type 0 where
  pub each : (roots : List ℕ) (before behind : List Tree) (tree : Tree) (trunks : List Trunk) → IsWholeFor old roots (before ++ tree ∷ behind) trunks
      → root_of tree ≡ root → IsPut old new roots before tree behind trunks rowid payload replaced

-- so many pages, and no fewer, pass the greatest database; where the pages are whole and the tree from the root is one of them, that
-- many are within those that nothing names, those in use, and what the trees may need with the row
pub record IsTooLarge (old : Pages) (root : ℕ) (rowid : ℤ) (payload : List ℕ) (page_size pages : ℕ) : Type 0 where
  pub passes : greatest_length < pages * page_size
  pub least : (pages - 1) * page_size ≤ greatest_length
  pub within : (roots : List ℕ) (before behind : List Tree) (tree : Tree) (trunks : List Trunk) → IsWholeFor old roots (before ++ tree ∷ behind) trunks
      → root_of tree ≡ root → pages ≤ length (missing_in (named_pages roots (before ++ tree ∷ behind) trunks) old.size)
      + use_of roots (before ++ tree ∷ behind) + need_put old.usable roots before tree behind rowid payload

-- a put is refused as too large only then
abbrev pub MayBeLarge : Pages → ℕ → ℤ → List ℕ → ℕ → SpaceFault → Type 0
MayBeLarge old root rowid payload page_size Failed = Unit {0}
MayBeLarge old root rowid payload page_size Memory = Unit {0}
MayBeLarge old root rowid payload page_size (Bad page kept found) = Unit {0}
MayBeLarge old root rowid payload page_size (Corrupt page) = Unit {0}
MayBeLarge old root rowid payload page_size (Large pages) = IsTooLarge old root rowid payload page_size pages

-- over whole pages, where the tree from the root is one of them, a put that is refused names no page at fault
pub record IsSoundlyRefused (old : Pages) (root : ℕ) (fault : SpaceFault) : Type 0 where
  pub each : (roots : List ℕ) (before behind : List Tree) (tree : Tree) (trunks : List Trunk) → IsWholeFor old roots (before ++ tree ∷ behind) trunks
      → root_of tree ≡ root → IsNoDamage fault

-- the pages are whole for some roots, and the tree from this root is one of theirs
pub record HasWholeTree (pages : Pages) (root : ℕ) : Type 0 where
  pub roots : List ℕ
  pub before : List Tree
  pub tree : Tree
  pub behind : List Tree
  pub trunks : List Trunk
  pub whole : IsWholeFor pages roots (before ++ tree ∷ behind) trunks
  pub rooted : root_of tree ≡ root
