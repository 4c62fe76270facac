-- What a removal leaves of whole pages.
-- After sqlite.org, "Database File Format", section 1.6, "B-tree Pages".
use Rattle.std.specs.Prelude.{◌≡◌, ◌↔◌, ℕ, ◌+◌, ◌*◌, ◌≤◌, max, Bool, ℤ, ◌<ℤ◌, ◌≤ℤ◌, int_le, if◌then◌else◌, List, [], ◌∷◌, ◌++◌, length, map}
use Rattle.std.specs.Prelude.{IsTrue}
use Rattle.db_format.specs.Header.{IsPageSize, greatest_length}
use Rattle.page_list.specs.Pages.{Pages, HasPage, Among, AreSized}
use Rattle.page_list.specs.Freelist.{Trunk}
use Rattle.tree_model.specs.Tree.{Tree, root_of, rows_of}
use Rattle.tree_model.specs.Whole.{below_all, greatest, IsWholeFor, named_pages}
use Rattle.tree_model.specs.Laws.{shown, row_at}
use Rattle.tree_model.specs.Need.{use_of}
use Rattle.tree_model.specs.declared.ends.PathEnd.TheVariants.{HasPayload}
use Rattle.tree_laws.specs.Front.{FreelistFront}
use Rattle.tree_laws.specs.Whole.{StaysUnnamed, missing_in}
use Rattle.tree_remove.specs.Remove.{RemoveDone}

-- a removal that was done on pages of this size: they were sized before, there are no too many then, the key is one of 64 bits, and the space tells
-- whether it was changed
pub record IsRemoval (page_size : ℕ) (old new : Pages) (root : ℕ) (key : ℤ) (removed : Bool) : Type 0 where
  pub size_of_page : IsPageSize page_size
  pub spare : page_size ≤ old.usable + 255
  pub sized : AreSized page_size old
  pub few : new.size * page_size ≤ greatest_length
  pub above : below_all <ℤ key
  pub below : key ≤ℤ greatest
  pub changed : Bool
  pub done : RemoveDone page_size old new changed root key removed

-- rows by key, without the one of a key
abbrev pub without_shown : ℤ → List (ℤ × List ℕ) → List (ℤ × List ℕ)
without_shown key [] = []
without_shown key (r ∷ more) = if int_le key r.0 then (if int_le r.0 key then more else r ∷ more) else r ∷ without_shown key more

-- What a removal leaves of whole pages, where the tree is one of them: they are whole with another tree in its place, which has its rows without that
-- one. There are no more pages than before, or than are used then, those used before and those that nothing named
pub record IsRemoved (old new : Pages) (roots : List ℕ) (before : List Tree) (tree : Tree) (behind : List Tree) (trunks : List Trunk) (key : ℤ) (removed : Bool) : Type 0 where
  pub tree' : Tree
  pub trunks' : List Trunk
  pub whole : IsWholeFor new roots (before ++ tree' ∷ behind) trunks'
  pub rooted : root_of tree' ≡ root_of tree
  pub rows : map shown (rows_of tree') ≡ without_shown key (map shown (rows_of tree))
  pub told : IsTrue removed ↔ ((was : List ℕ) × (row_at key (rows_of tree) ≡ HasPayload was))
  pub unnamed : (n : ℕ) → HasPage old n → ¬ (Among (named_pages roots (before ++ tree ∷ behind) trunks) n) →
      StaysUnnamed old new (named_pages roots (before ++ tree' ∷ behind) trunks') n
  -- and no page is lost: nothing named before what nothing names then
  pub none_lost : (n : ℕ) → HasPage new n → ¬ (Among (named_pages roots (before ++ tree' ∷ behind) trunks') n) →
      HasPage old n × ¬ (Among (named_pages roots (before ++ tree ∷ behind) trunks) n)
  -- of the header of the database the freelist alone has changed
  pub front : FreelistFront old new
  pub no_fewer : old.size ≤ new.size
  pub bound : new.size ≤ max old.size (length (missing_in (named_pages roots (before ++ tree ∷ behind) trunks) old.size)
      + use_of roots (before ++ tree ∷ behind) + use_of roots (before ++ tree' ∷ behind))

abbrev pub RemoveKeepsWhole : Type 0
RemoveKeepsWhole = (page_size : ℕ) (old new : Pages) (root : ℕ) (key : ℤ) (removed : Bool) (roots : List ℕ) (before behind : List Tree) (tree : Tree) (trunks : List Trunk) →
    IsRemoval page_size old new root key removed → IsWholeFor old roots (before ++ tree ∷ behind) trunks → root_of tree ≡ root →
    IsRemoved old new roots before tree behind trunks key removed
