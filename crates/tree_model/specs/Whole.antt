-- Whole pages, where a list of roots says which trees there are: every page is where it should be, once.
-- After sqlite.org, "Database File Format", sections 1.3, 1.5 and 1.6.
use Rattle.std.specs.Prelude.{◌≡◌, ℕ, ◌+◌, ◌*◌, ◌≤◌, ◌<◌, nat_eq, if◌then◌else◌, ℤ, pos, negsuc, List, [], ◌∷◌, ◌++◌, length, take, drop, slice_index, None, IsOk}
use Rattle.std.specs.List.{flat_map, AllZip}
use Rattle.page_list.specs.Pages.{Pages, HasPage, IsGood, times, Among, AllDifferent}
use Rattle.page_list.specs.Freelist.{Trunk, IsFreelist, free_pages, free_count}
use Rattle.db_format.specs.Header.{header_of, page_of}
use Rattle.tree_model.specs.Tree.{Tree, root_of, pages_of, IsOrdered, HasDepth, IsFilledRoot}
use Rattle.tree_model.specs.Held.{Holds}

-- every rowid is above the first and at most the second
abbrev pub below_all : ℤ
below_all = negsuc 9223372036854775808

abbrev pub greatest : ℤ
greatest = pos 9223372036854775807

-- the most pages from a root to a leaf, both counted
abbrev pub most_depth : ℕ
most_depth = 20

-- the pages hold the tree from a root, with its chains, and it is whole
pub record IsWholeTree (pages : Pages) (root : ℕ) (tree : Tree) : Type 0 where
  pub rooted : root_of tree ≡ root
  -- every page of it is there, good and well formed, and each chain has just the pages that its payload needs
  pub held : Holds pages tree
  -- with the order inside a page, which `IsPage` says, the rowids rise, each within its separators
  pub ordered : IsOrdered below_all greatest tree
  pub depth : ℕ
  pub level : HasDepth depth tree
  pub shallow : depth ≤ most_depth
  pub filled : IsFilledRoot tree

-- page 1 as a header without its size, which stands at place 28
abbrev pub unsized_header : Pages → List ℕ
unsized_header pages = take 28 (pages.bytes 1) ++ 0 ∷ 0 ∷ 0 ∷ 0 ∷ drop 32 (pages.bytes 1)

-- page 1 begins with a header that is read without refusal, its size left aside, and says this usable size
pub record HasHeader (pages : Pages) : Type 0 where
  pub there : HasPage pages 1
  pub good : IsGood pages 1
  pub accepted : IsOk (header_of (unsized_header pages) (page_of (unsized_header pages) * pages.size) None)
  pub used : page_of (unsized_header pages) ≡ pages.usable + slice_index (unsized_header pages) 20
  -- a byte: pages here are lists of numbers, and no page of ours has a greater one
  pub reserve : slice_index (unsized_header pages) 20 < 256

-- page 1, where it is no root, is named for its header
abbrev pub first_page : List ℕ → List ℕ
first_page roots = if nat_eq (times 1 roots) 0 then 1 ∷ [] else []

-- the pages that the roots name: all but those of the freelist, and those with it
abbrev pub used_pages : List ℕ → List Tree → List ℕ
used_pages roots trees = first_page roots ++ flat_map pages_of trees

abbrev pub named_pages : List ℕ → List Tree → List Trunk → List ℕ
named_pages roots trees trunks = used_pages roots trees ++ free_pages trunks

-- the pages are whole for these roots, with these trees and this freelist
pub record IsWholeFor (pages : Pages) (roots : List ℕ) (trees : List Tree) (trunks : List Trunk) : Type 0 where
  pub header : HasHeader pages
  pub each_tree : AllZip (IsWholeTree pages) roots trees
  pub freelist : IsFreelist pages trunks
  pub good_free : (page : ℕ) → Among (free_pages trunks) page → IsGood pages page
  pub counted : free_count pages ≡ length (free_pages trunks)
  pub different : AllDifferent (named_pages roots trees trunks)
