-- What comes of a page when a row is taken out below it, level by level. `Join` has what comes of it where two pages below become one.
use Rattle.std.specs.Prelude.{◌≡◌, ℕ, suc, ◌+◌, ◌≤◌, ℤ, ◌<ℤ◌, ◌≤ℤ◌, List, [], ◌∷◌, ◌++◌, length, map, Option, Some, None}
use Rattle.page_list.specs.Pages.{Pages, times, Among}
use Rattle.tree_page.specs.declared.cell.InnerCell.{InnerCell}
use Rattle.tree_page.specs.declared.cell.PageCells.TheVariants.{Leaf as LeafPage, Interior as InteriorPage}
use Rattle.tree_model.specs.Tree.{Row, Tree, Leaf, root_of, rows_of, pages_of}
use Rattle.tree_model.specs.Held.{HasCells}
use Rattle.tree_model.specs.Laws.{Keeps, chains_of}
use Rattle.tree_run.specs.Node.{Piece, last_key, pages_in}
use Rattle.tree_run.specs.Run.{IsRun, one, over, Behind, within, bound, behind_pages}
use Rattle.tree_run.specs.Edit.{chain_at, without, Removes}
use Rattle.tree_run.specs.Laws.{AreRows}
use Rattle.tree_level.specs.Level.{Has, Instead}
use Rattle.tree_shrink.specs.Rest.{Rest, Trees, Below, Gone, IsRest, rest_rows, rest_pages, left_of, cells_left, rest_over}

-- What stands in place of a tree within bounds after a row was taken out below it: its rows are those without that one, and those
-- of its pages that are gone are no more
pub record Less (new : Pages) (low high : ℤ) (depth : ℕ) (key : ℤ) (was : Tree) (rest : Rest) (gone : List ℕ) : Type 0 where
  pub is : IsRest new low high depth rest
  pub rows : rest_rows rest ≡ without key (rows_of was)
  pub named : (n : ℕ) → times n (rest_pages rest) + times n gone ≡ times n (pages_of was)

-- where a tree still stands on the page, it stands in place of the old one, and the parent has no more to name than before
abbrev pub LessInstead : Type 0
LessInstead = (new : Pages) (low high : ℤ) (depth : ℕ) (key : ℤ) (was tree : Tree) (gone : List ℕ) → Less new low high depth key was (Trees (one tree)) gone →
    root_of tree ≡ root_of was → Instead new low high depth (Removes key) was [] (root_of was) [] gone

-- a leaf: with its other rows on its page; or, where it has no other, it is gone
pub record LeafLess : Type 0 where
  pub stays : (old new : Pages) (low high : ℤ) (page : ℕ) (key : ℤ) (rows : List Row) → AreRows old low high rows → low ≤ℤ high → 1 ≤ length (without key rows) →
      HasCells new page (LeafPage (map (λ row. row.cell) (without key rows))) → Keeps old new (Among (chains_of (without key rows))) →
      Less new low high 1 key (Leaf page rows) (Trees (one (Leaf page (without key rows)))) (chain_at key rows)
  pub goes : (new : Pages) (low high : ℤ) (page : ℕ) (key : ℤ) (rows : List Row) → without key rows ≡ [] →
      Less new low high 1 key (Leaf page rows) Gone (page ∷ chain_at key rows)

-- an interior page whose child stays on its page: it stays as it is
abbrev pub InnerStays : Type 0
InnerStays = (old new : Pages) (low high : ℤ) (depth page right : ℕ) (key : ℤ) (before : List Piece) (child child' : Tree) (behind : Behind) (cells : List InnerCell) (gone : List ℕ) →
    IsRun old low high depth (within before (one child) behind) → Has cells right (within before (one child) behind) → 1 ≤ length cells → HasCells old page (InteriorPage cells right) →
    last_key low before <ℤ key → key ≤ℤ bound high behind → root_of child' ≡ root_of child →
    Less new (last_key low before) (bound high behind) depth key child (Trees (one child')) gone →
    Keeps old new (Among (page ∷ (pages_in before ++ behind_pages behind))) →
    Less new low high (suc depth) key (over page (within before (one child) behind)) (Trees (one (over page (within before (one child') behind)))) gone

-- the page, where a tree still stands over it
abbrev pub lost_page : ℕ → Rest → List ℕ
lost_page page (Trees run) = []
lost_page page (Below tree) = page ∷ []
lost_page page Gone = page ∷ []

-- the page has the cells that are left, where a tree still stands over it
abbrev pub HasLeft : Pages → ℕ → Rest → Option (List InnerCell × ℕ) → Type 0
HasLeft new page (Trees run) None = ⊥
HasLeft new page (Trees run) (Some left) = HasCells new page (InteriorPage left.0 left.1)
HasLeft new page (Below tree) left = Unit {0}
HasLeft new page Gone left = Unit {0}

-- an interior page whose child is gone: it stands over the others; over one alone it is no more, and so it is where there is none
abbrev pub InnerLoses : Type 0
InnerLoses = (old new : Pages) (low high : ℤ) (depth page right at : ℕ) (key : ℤ) (before : List Piece) (child : Tree) (behind : Behind) (cells : List InnerCell) (gone : List ℕ) →
    IsRun old low high depth (within before (one child) behind) → Has cells right (within before (one child) behind) → at ≡ length before →
    last_key low before <ℤ key → key ≤ℤ bound high behind →
    Less new (last_key low before) (bound high behind) depth key child Gone gone →
    Keeps old new (Among (pages_in before ++ behind_pages behind)) →
    HasLeft new page (rest_over (over page) (left_of before behind)) (cells_left at cells right) →
    Less new low high (suc depth) key (over page (within before (one child) behind)) (rest_over (over page) (left_of before behind))
    (gone ++ lost_page page (rest_over (over page) (left_of before behind)))
