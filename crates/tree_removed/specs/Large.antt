-- A removal that finds no page free and may add none.
-- After sqlite.org, "Database File Format", section 1.5, "The Freelist".
use Rattle.std.specs.Prelude.{◌≡◌, ℕ, ◌+◌, ◌*◌, ◌≤◌, ◌<◌, ℤ, ◌<ℤ◌, ◌≤ℤ◌, List, ◌∷◌, ◌++◌, length, map}
use Rattle.db_format.specs.Header.{IsPageSize, greatest_length}
use Rattle.page_list.specs.Pages.{Pages, AreSized}
use Rattle.page_list.specs.Freelist.{Trunk, first_trunk}
use Rattle.page_list.specs.Edits.{after_takes}
use Rattle.tree_page.specs.declared.cell.LeafCell.{LeafCell}
use Rattle.tree_model.specs.Tree.{Tree, root_of, rows_of}
use Rattle.tree_model.specs.Whole.{below_all, greatest, first_page, IsWholeFor, named_pages}
use Rattle.tree_model.specs.Laws.{shown}
use Rattle.tree_model.specs.Need.{need_of_rows, need_of_trees, use_of}
use Rattle.tree_model.specs.declared.level.Level.{Level}
use Rattle.tree_laws.specs.Whole.{missing_in}
use Rattle.tree_search.specs.Search.{Descends}
use Rattle.tree_removed.specs.Keeps.{without_shown}

-- what trees may need once a row is taken out of one of them, with the header page where it is no root
abbrev pub need_without : ℕ → List ℕ → List Tree → Tree → List Tree → ℤ → ℕ
need_without usable roots before tree behind key =
    length (first_page roots) + need_of_trees usable before
    + need_of_rows usable (map (λ row. length row.1) (without_shown key (map shown (rows_of tree)))) + need_of_trees usable behind

-- a removal has taken some pages, fewer than its way has interior pages, and no page is free
pub record RemovalStops (page_size : ℕ) (old stopped : Pages) (root : ℕ) (key : ℤ) : Type 0 where
  pub size_of_page : IsPageSize page_size
  pub spare : page_size ≤ old.usable + 255
  pub sized : AreSized page_size old
  pub few : stopped.size * page_size ≤ greatest_length
  pub none_free : first_trunk stopped ≡ 0
  pub above : below_all <ℤ key
  pub below : key ≤ℤ greatest
  pub levels : List Level
  pub leaf : ℕ
  pub cells : List LeafCell
  pub descends : Descends old key root levels leaf cells
  pub count : ℕ
  pub fewer : count < length levels
  pub pages_are : stopped ≡ after_takes page_size count old

-- then the pages that there are and one more are no more than those that nothing names, those in use, and what the trees may need without
-- the row
abbrev pub RemoveMayBeLarge : Type 0
RemoveMayBeLarge = (page_size : ℕ) (old stopped : Pages) (root : ℕ) (key : ℤ) (roots : List ℕ) (before behind : List Tree) (tree : Tree) (trunks : List Trunk) →
    RemovalStops page_size old stopped root key → IsWholeFor old roots (before ++ tree ∷ behind) trunks → root_of tree ≡ root →
    stopped.size + 1 ≤ length (missing_in (named_pages roots (before ++ tree ∷ behind) trunks) old.size) + use_of roots (before ++ tree ∷ behind)
    + need_without old.usable roots before tree behind key
