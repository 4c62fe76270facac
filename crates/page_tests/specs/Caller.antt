-- What a small caller of a page space leaves of whole pages. It stands in the tests, and shows what the crates above have
-- at hand.
use Rattle.std.specs.Prelude.{◌≡◌, ℕ, ◌≤◌, List}
use Rattle.page_list.specs.Pages.{Pages, SamePage, Among}
use Rattle.page_list.specs.Freelist.{Trunk, free_pages, taken_page, take_from, give_to}
use Rattle.tree_page.specs.declared.cell.PageCells.{PageCells}
use Rattle.tree_page.specs.Written.{Fits}
use Rattle.tree_model.specs.Tree.{Tree}
use Rattle.tree_model.specs.Held.{HasCells}
use Rattle.tree_model.specs.Whole.{IsWholeFor, named_pages}

-- the cells fit on every page
pub record FitsAll (cells : PageCells) (usable : ℕ) : Type 0 where
  pub each : (number : ℕ) → Fits cells number usable

-- where the pages were whole: the page was free or is new, nothing names it, and it has these cells; another was taken
-- behind it and is free again; the trees are the same, and no page in use but page 1 has changed
pub record HasLeaf (old new : Pages) (page : ℕ) (cells : PageCells) (roots : List ℕ) (trees : List Tree) (trunks : List Trunk) : Type 0 where
  pub is : page ≡ taken_page old.size trunks
  pub other : ℕ
  pub whole : IsWholeFor new roots trees (give_to old.usable other (take_from (take_from trunks)))
  pub unnamed : ¬ (Among (named_pages roots trees (give_to old.usable other (take_from (take_from trunks)))) page)
  pub holds : HasCells new page cells
  pub others : (n : ℕ) → 2 ≤ n → n ≤ old.size → ¬ (Among (free_pages trunks) n) → SamePage old new n

pub record LeavesLeaf (old new : Pages) (page : ℕ) (cells : PageCells) : Type 0 where
  pub each : (roots : List ℕ) (trees : List Tree) (trunks : List Trunk) → IsWholeFor old roots trees trunks → HasLeaf old new page cells roots trees trunks
