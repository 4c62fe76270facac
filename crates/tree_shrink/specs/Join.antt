-- Two pages side by side below an interior page, where one of them has one child left after a row was taken out below it, and the
-- other is an interior page: their children become one list, which is cut anew.
-- After sqlite.org, "Database File Format", section 1.6, "B-tree Pages".
use Rattle.std.specs.Prelude.{◌≡◌, ◌⊎◌, ℕ, suc, ℤ, ◌<ℤ◌, ◌≤ℤ◌, List, [], ◌∷◌, ◌++◌, length, take, drop}
use Rattle.page_list.specs.Pages.{Pages, Among}
use Rattle.tree_page.specs.declared.cell.InnerCell.{InnerCell}
use Rattle.tree_page.specs.declared.cell.PageCells.{PageCells}
use Rattle.tree_model.specs.Tree.{Tree, root_of}
use Rattle.tree_model.specs.Laws.{Keeps}
use Rattle.tree_run.specs.Node.{Piece, cells_of, last_key, pages_in}
use Rattle.tree_run.specs.Run.{Run, IsRun, run_pages, one, over, Behind, Next, within, bound, behind_pages}
use Rattle.tree_run.specs.Edit.{Removes}
use Rattle.page_cut.specs.declared.parts.Sheet.{Sheet}
use Rattle.page_cut.specs.Cut.{AreInnerParts}
use Rattle.tree_level.specs.Level.{numbers, up_cells, AreOnPages, Has, Instead}
use Rattle.tree_shrink.specs.Rest.{Below}
use Rattle.tree_shrink.specs.Level.{Less}

-- two trees side by side, with the key between them
abbrev pub pair_of : Tree → ℤ → Tree → Run
pair_of a k b = record { front = record { tree = a; key = k } ∷ []; last = b }

-- the children of two pages side by side: those of the left one, the key between the pages, and those of the right one
abbrev pub joined_run : Run → ℤ → Run → Run
joined_run left k right = within left.front (one left.last) (Next k right)

-- the row was taken out below the left page, of which one child is left; the right page is an interior page, whose children stay
pub record LeftLess (old new : Pages) (low high : ℤ) (depth : ℕ) (key : ℤ) (a : Tree) (k : ℤ) (b : Tree) (left right : Run) (gone : List ℕ) : Type 0 where
  pub above : low <ℤ key
  pub below : key ≤ℤ k
  pub child : Tree
  pub left_is : left ≡ one child
  pub less : Less new low k (suc depth) key a (Below child) (gone ++ root_of a ∷ [])
  pub right_is : b ≡ over (root_of b) right
  pub stays : Keeps old new (Among (run_pages right))

-- the same with the sides changed
pub record RightLess (old new : Pages) (low high : ℤ) (depth : ℕ) (key : ℤ) (a : Tree) (k : ℤ) (b : Tree) (left right : Run) (gone : List ℕ) : Type 0 where
  pub above : k <ℤ key
  pub below : key ≤ℤ high
  pub child : Tree
  pub right_is : right ≡ one child
  pub less : Less new k high (suc depth) key b (Below child) (gone ++ root_of b ∷ [])
  pub left_is : a ≡ over (root_of a) left
  pub stays : Keeps old new (Among (run_pages left))

-- where the children of both are in two parts, the first stands on the left page
abbrev pub OnLeft : ℕ → List Sheet → Type 0
OnLeft page [] = Unit {0}
OnLeft page (sheet ∷ more) = (sheet.number ≡ page) × (more ≡ [])

-- and where one page has room for them, the left page is gone
abbrev pub joined_lost : ℕ → List Sheet → List ℕ
joined_lost page [] = page ∷ []
joined_lost page (sheet ∷ more) = []

-- Two such pages among the children of an interior page, with the row taken out. The children of both are in these parts, of which the
-- last stands on the right page.
pub record Pair (old new : Pages) (low high : ℤ) (depth : ℕ) (key : ℤ) (before : List Piece) (a : Tree) (k : ℤ) (b : Tree) (behind : Behind) (left right : Run)
    (gone : List ℕ) (parts : List Sheet) : Type 0 where
  pub is : IsRun old low high (suc depth) (within before (pair_of a k b) behind)
  pub one_less : LeftLess old new (last_key low before) (bound high behind) depth key a k b left right gone
      ⊎ RightLess old new (last_key low before) (bound high behind) depth key a k b left right gone
  pub last : PageCells
  pub are : AreInnerParts parts last (cells_of (joined_run left k right).front) (root_of (joined_run left k right).last)
  pub on : AreOnPages new parts (root_of b) last
  pub on_left : OnLeft (root_of a) parts

-- the cells of the page, with these in place of the one of the left child: the right one keeps its number
abbrev pub joined_cells : ℕ → List InnerCell → List InnerCell → List InnerCell
joined_cells at ups cells = take at cells ++ (ups ++ drop (suc at) cells)

-- an interior page over such a pair: its cells then, in parts, stand in place of it; or, where it has none, the children of the pair are
-- below one page, which alone is left
pub record InnerJoins : Type 0 where
  pub stands : (old new : Pages) (low high : ℤ) (depth root page right at : ℕ) (key : ℤ) (before : List Piece) (a : Tree) (k : ℤ) (b : Tree) (behind : Behind)
      (lefts rights : Run) (cells : List InnerCell) (gone : List ℕ) (parts front : List Sheet) (last : PageCells) →
      Pair old new low high depth key before a k b behind lefts rights gone parts → Has cells right (within before (pair_of a k b) behind) → at ≡ length before →
      Keeps old new (Among (pages_in before ++ behind_pages behind)) →
      AreInnerParts front last (joined_cells at (up_cells parts) cells) right → AreOnPages new front page last →
      Instead new low high (suc (suc depth)) (Removes key) (over root (within before (pair_of a k b) behind)) (up_cells front) page (numbers front)
      (gone ++ joined_lost (root_of a) parts)
  pub alone : (old new : Pages) (low high : ℤ) (depth root right at : ℕ) (key : ℤ) (before : List Piece) (a : Tree) (k : ℤ) (b : Tree) (behind : Behind)
      (lefts rights : Run) (cells : List InnerCell) (gone : List ℕ) (parts : List Sheet) →
      Pair old new low high depth key before a k b behind lefts rights gone parts → Has cells right (within before (pair_of a k b) behind) → at ≡ length before →
      joined_cells at (up_cells parts) cells ≡ [] →
      Less new low high (suc (suc depth)) key (over root (within before (pair_of a k b) behind)) (Below (over (root_of b) (joined_run lefts k rights)))
      ((gone ++ root_of a ∷ []) ++ root ∷ [])
