-- A put that finds no page free and may add none.
-- After sqlite.org, "Database File Format", section 1.5, "The Freelist".
use Rattle.std.specs.Prelude.{◌≡◌, ◌⊎◌, ℕ, ◌+◌, ◌*◌, ◌≤◌, ◌<◌, ℤ, ◌<ℤ◌, ◌≤ℤ◌, List, ◌∷◌, ◌++◌, length, map, drop}
use Rattle.db_format.specs.Header.{IsPageSize, greatest_length}
use Rattle.db_format.specs.Spill.{local_size}
use Rattle.page_list.specs.Pages.{Pages, AreSized}
use Rattle.page_list.specs.Freelist.{Trunk, first_trunk}
use Rattle.page_list.specs.Chain.{pages_needed}
use Rattle.page_list.specs.Edits.{after_takes}
use Rattle.tree_page.specs.declared.cell.LeafCell.{LeafCell}
use Rattle.tree_model.specs.Tree.{Tree, root_of, rows_of}
use Rattle.tree_model.specs.Whole.{below_all, greatest, first_page, IsWholeFor, named_pages}
use Rattle.tree_model.specs.Laws.{shown}
use Rattle.tree_model.specs.Need.{need_of_rows, need_of_trees, use_of}
use Rattle.tree_model.specs.declared.level.Level.{Level}
use Rattle.tree_laws.specs.Whole.{missing_in}
use Rattle.tree_plan.specs.declared.leaf.LeafPlan.{LeafPlan}
use Rattle.tree_plan.specs.Plan.{IsLeafPlan}
use Rattle.tree_search.specs.Search.{Descends}
use Rattle.tree_put.specs.Keeps.{IsChained, IsCellOf, put_shown}

-- what trees may need once a row is put into one of them, with the header page where it is no root
abbrev pub need_put : ℕ → List ℕ → List Tree → Tree → List Tree → ℤ → List ℕ → ℕ
need_put usable roots before tree behind key payload =
    length (first_page roots) + need_of_trees usable before
    + need_of_rows usable (map (λ row. length row.1) (put_shown (key, payload) (map shown (rows_of tree)))) + need_of_trees usable behind

-- a page more is needed for the chain of the payload
pub record NeedsForChain (page_size : ℕ) (old stopped : Pages) (payload : List ℕ) : Type 0 where
  pub count : ℕ
  pub fewer : count < pages_needed old.usable (length (drop (local_size old.usable (length payload)) payload))
  pub pages_are : stopped ≡ after_takes page_size count old

-- the chain is written, and a page more is needed for the parts of the pages of the way: there is one for each part of the
-- leaf but the last, one at most for each interior page, and one for the root
pub record NeedsForParts (page_size : ℕ) (old stopped : Pages) (root : ℕ) (key : ℤ) (payload : List ℕ) : Type 0 where
  pub above : below_all <ℤ key
  pub below : key ≤ℤ greatest
  pub levels : List Level
  pub leaf : ℕ
  pub cells : List LeafCell
  pub descends : Descends old key root levels leaf cells
  pub chained : Pages
  pub first : ℕ
  pub chain : IsChained page_size old chained (drop (local_size old.usable (length payload)) payload) first
  pub chain_sized : AreSized page_size chained
  pub cell : LeafCell
  pub cell_of : IsCellOf old.usable key payload first cell
  pub plan : LeafPlan
  pub planned : IsLeafPlan leaf old.usable cells cell plan
  pub count : ℕ
  pub fewer : count ≤ length plan.sheets.front.items + length levels
  pub pages_are : stopped ≡ after_takes page_size count chained

-- a put has come so far, and no page is free
pub record PutStops (page_size : ℕ) (old stopped : Pages) (root : ℕ) (key : ℤ) (payload : List ℕ) : Type 0 where
  pub size_of_page : IsPageSize page_size
  pub spare : page_size ≤ old.usable + 255
  pub sized : AreSized page_size old
  pub few : stopped.size * page_size ≤ greatest_length
  pub none_free : first_trunk stopped ≡ 0
  pub needs : NeedsForChain page_size old stopped payload ⊎ NeedsForParts page_size old stopped root key payload

-- then the pages that there are and one more are no more than those that nothing names, those in use, and what the trees
-- may need with the row
abbrev pub PutMayBeLarge : Type 0
PutMayBeLarge = (page_size : ℕ) (old stopped : Pages) (root : ℕ) (key : ℤ) (payload : List ℕ) (roots : List ℕ) (before behind : List Tree) (tree : Tree) (trunks : List Trunk) →
    PutStops page_size old stopped root key payload → IsWholeFor old roots (before ++ tree ∷ behind) trunks → root_of tree ≡ root →
    stopped.size + 1 ≤ length (missing_in (named_pages roots (before ++ tree ∷ behind) trunks) old.size) + use_of roots (before ++ tree ∷ behind)
    + need_put old.usable roots before tree behind key payload
