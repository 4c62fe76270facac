-- A row taken out, of whole pages.
use Rattle.std.specs.Prelude.{◌≡◌, ℕ, ◌+◌, ◌-◌, ◌*◌, ◌≤◌, ◌<◌, Bool, ℤ, List, ◌∷◌, ◌++◌, length}
use Rattle.db_format.specs.Header.{greatest_length}
use Rattle.db_format.specs.declared.fault.SpaceFault.{SpaceFault}
use Rattle.db_format.specs.declared.fault.SpaceFault.TheVariants.{Failed, Memory, Bad, Corrupt, Large}
use Rattle.page_list.specs.Pages.{Pages}
use Rattle.page_list.specs.Freelist.{Trunk}
use Rattle.tree_model.specs.Tree.{Tree, root_of}
use Rattle.tree_model.specs.Whole.{IsWholeFor, named_pages}
use Rattle.tree_model.specs.Need.{use_of}
use Rattle.tree_laws.specs.Whole.{missing_in}
use Rattle.tree_removed.specs.Keeps.{IsRemoved}
use Rattle.tree_removed.specs.Large.{need_without}

-- over whole pages, where the tree from the root is one of them, the row is taken out: they are whole, with another tree in its place,
-- whose rows are those before without this one, and all that `IsRemoved` says of the pages beside
pub record RemovesRow (old new : Pages) (root : ℕ) (rowid : ℤ) (removed : Bool) : Type 0 where
  pub each : (roots : List ℕ) (before behind : List Tree) (tree : Tree) (trunks : List Trunk) → IsWholeFor old roots (before ++ tree ∷ behind) trunks
      → root_of tree ≡ root → IsRemoved old new roots before tree behind trunks rowid removed

-- so many pages, and no fewer, pass the greatest database; where the pages are whole and the tree from the root is one of them, that
-- many are within those that nothing names, those in use, and what the trees may need without the row
pub record IsTooLargeWithout (old : Pages) (root : ℕ) (rowid : ℤ) (page_size pages : ℕ) : Type 0 where
  pub passes : greatest_length < pages * page_size
  pub least : (pages - 1) * page_size ≤ greatest_length
  pub within : (roots : List ℕ) (before behind : List Tree) (tree : Tree) (trunks : List Trunk) → IsWholeFor old roots (before ++ tree ∷ behind) trunks
      → root_of tree ≡ root → pages ≤ length (missing_in (named_pages roots (before ++ tree ∷ behind) trunks) old.size)
      + use_of roots (before ++ tree ∷ behind) + need_without old.usable roots before tree behind rowid

-- a removal is refused as too large only then
abbrev pub MayBeLargeWithout : Pages → ℕ → ℤ → ℕ → SpaceFault → Type 0
MayBeLargeWithout old root rowid page_size Failed = Unit {0}
MayBeLargeWithout old root rowid page_size Memory = Unit {0}
MayBeLargeWithout old root rowid page_size (Bad page kept found) = Unit {0}
MayBeLargeWithout old root rowid page_size (Corrupt page) = Unit {0}
MayBeLargeWithout old root rowid page_size (Large pages) = IsTooLargeWithout old root rowid page_size pages
