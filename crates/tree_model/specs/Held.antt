-- That pages hold a tree.
-- After sqlite.org, "Database File Format", section 1.6, "B-tree Pages".
use Rattle.std.specs.Prelude.{◌≡◌, ℕ, List, [], ◌∷◌, ◌++◌, length, map}
use Rattle.std.specs.List.{AllByRecursion}
use Rattle.page_list.specs.Pages.{Pages, HasPage, IsGood}
use Rattle.page_list.specs.Chain.{IsChain}
use Rattle.tree_page.specs.Page.{IsPage}
use Rattle.tree_page.specs.declared.cell.InnerCell.{InnerCell}
use Rattle.tree_page.specs.declared.cell.PageCells.{PageCells}
use Rattle.tree_page.specs.declared.cell.PageCells.TheVariants.{Leaf as LeafPage, Interior as InteriorPage}
use Rattle.tree_model.specs.Tree.{Row, Tree, Leaf, Child, Right, root_of}

-- the page is there, is good, and is a b-tree page with these cells
pub record HasCells (pages : Pages) (page : ℕ) (cells : PageCells) : Type 0 where
  pub there : HasPage pages page
  pub good : IsGood pages page
  pub reads : IsPage (pages.bytes page) page pages.usable cells

-- the payload of the row is what its cell keeps and, behind it, what its chain holds: just the pages that it needs
pub record HasRow (pages : Pages) (row : Row) : Type 0 where
  pub rest : List ℕ
  pub joined : row.payload ≡ row.cell.local ++ rest
  pub whole : length row.payload ≡ row.cell.payload_len
  pub chained : IsChain pages row.cell.overflow row.chain rest

-- the pages hold the tree; of an interior page, `front` are the cells of the children before
abbrev pub HoldsBehind : Pages → List InnerCell → Tree → Type 0
HoldsBehind pages front (Leaf page rows) =
    (front ≡ []) × HasCells pages page (LeafPage (map (λ row. row.cell) rows)) × AllByRecursion (HasRow pages) rows
HoldsBehind pages front (Child child key more) =
    HoldsBehind pages [] child × HoldsBehind pages (front ++ record { child = root_of child; rowid = key } ∷ []) more
HoldsBehind pages front (Right page child) =
    HasCells pages page (InteriorPage front (root_of child)) × HoldsBehind pages [] child

abbrev pub Holds : Pages → Tree → Type 0
Holds pages tree = HoldsBehind pages [] tree
