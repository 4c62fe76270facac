-- The top of a tree that pages hold.
use Rattle.std.proofs.Common.{◌≡◌, ℕ, ◌≤◌, List, [], ◌∷◌, ◌++◌, length, map, sym, ap, subst, ◌∙◌, arith, length-append}
use Rattle.std.proofs.lemmas.List.{append_cancel_left}
use Rattle.std.specs.List.{AllByRecursion}
use Rattle.page_list.specs.Pages.{Pages, times}
use Rattle.tree_page.specs.Page.{OnePage}
use Rattle.tree_page.specs.declared.cell.LeafCell.{LeafCell}
use Rattle.tree_page.specs.declared.cell.InnerCell.{InnerCell}
use Rattle.tree_page.specs.declared.cell.PageCells.{PageCells}
use Rattle.tree_page.specs.declared.cell.PageCells.TheVariants.{Leaf as LeafPage, Interior as InteriorPage}
use Rattle.tree_model.specs.Tree.{Row, Tree, Leaf, Child, Right, root_of, pages_of}
use Rattle.tree_model.specs.Held.{HasCells, HasRow, HoldsBehind, Holds}
use Rattle.tree_model.proofs.OneTreeLemmas.{cells_at, top_cells, inner_cells, right_most, leaf_cells, is_interior, behind, listed}
use Rattle.tree_laws.proofs.FrontLemmas.{top_count}

abbrev front_or : InnerCell → List InnerCell → InnerCell
front_or d [] = d
front_or d (x ∷ xs) = x

-- a tree names its root
pub root_times : (n : ℕ) (tree : Tree) → times n (root_of tree ∷ []) ≤ times n (pages_of tree)
root_times n tree = omega (arith, top_count n tree)

-- the cells at its top are those of the page
pub top_is : OnePage → (pages : Pages) (front : List InnerCell) (tree : Tree) (page : ℕ) (cells : PageCells) → HoldsBehind pages front tree → root_of tree ≡ page
    → HasCells pages page cells → cells_at front tree ≡ cells
top_is one pages front tree page cells held rooted has =
    let P : ℕ → Type 0 = λ root. HasCells pages root (cells_at front tree) in
    let top = subst P rooted (top_cells pages front tree held) in
    one (pages.bytes page) page pages.usable _ _ top.reads has.reads

-- a leaf
pub record IsLeafTree (pages : Pages) (page : ℕ) (cells : List LeafCell) (tree : Tree) : Type 0 where
  pub rows : List Row
  pub is : tree ≡ Leaf page rows
  pub cells_are : map (λ row. row.cell) rows ≡ cells
  pub held : AllByRecursion (HasRow pages) rows

pub leaf_tree : OnePage → (pages : Pages) (page : ℕ) (cells : List LeafCell) (tree : Tree) → HasCells pages page (LeafPage cells) → Holds pages tree → root_of tree ≡ page
    → IsLeafTree pages page cells tree
leaf_tree one pages page cells (Leaf p rows) has held rooted =
    let same = top_is one pages [] (Leaf p rows) page (LeafPage cells) held rooted has in
    record { rows = rows; is = ap (λ (n : ℕ). Leaf n rows) rooted; cells_are = ap leaf_cells same; held = held.2 }
leaf_tree one pages page cells (Child child key more) has held rooted =
    let same = top_is one pages [] (Child child key more) page (LeafPage cells) held rooted has in
    absurd (omega (arith, ap is_interior same, (listed pages [] (record { child = root_of child; rowid = key }) more held.1).1))
leaf_tree one pages page cells (Right p child) has held rooted =
    let same = top_is one pages [] (Right p child) page (LeafPage cells) held rooted has in
    absurd (omega (arith, ap is_interior same))

-- the next child of an interior page, of which these stand in front, and the rest
pub record IsNext (pages : Pages) (page : ℕ) (front : List InnerCell) (cell : InnerCell) (tree : Tree) : Type 0 where
  pub child : Tree
  pub more : Tree
  pub is : tree ≡ Child child cell.rowid more
  pub child_held : Holds pages child
  pub child_rooted : root_of child ≡ cell.child
  pub more_held : HoldsBehind pages (front ++ cell ∷ []) more
  pub more_rooted : root_of more ≡ page

pub next_of : OnePage → (pages : Pages) (page : ℕ) (front : List InnerCell) (cell : InnerCell) (back : List InnerCell) (right : ℕ) (tree : Tree)
    → HasCells pages page (InteriorPage (front ++ cell ∷ back) right) → HoldsBehind pages front tree → root_of tree ≡ page → IsNext pages page front cell tree
next_of one pages page front cell back right (Leaf p rows) has held rooted =
    let same = top_is one pages front (Leaf p rows) page (InteriorPage (front ++ cell ∷ back) right) held rooted has in
    absurd (omega (arith, ap is_interior same))
next_of one pages page front cell back right (Child child key more) has held rooted =
    let same = top_is one pages front (Child child key more) page (InteriorPage (front ++ cell ∷ back) right) held rooted has in
    let x : InnerCell = record { child = root_of child; rowid = key } in
    let lists : x ∷ behind more ≡ cell ∷ back = append_cancel_left front (x ∷ behind more) (cell ∷ back) (sym (listed pages front x more held.1).0 ∙ ap inner_cells same) in
    let is_x : x ≡ cell = ap (front_or x) lists in
    let P : InnerCell → Type 0 = λ y. HoldsBehind pages (front ++ y ∷ []) more in
    record {
      child = child;
      more = more;
      is = ap (λ (y : InnerCell). Child child y.rowid more) is_x;
      child_held = held.0;
      child_rooted = ap (λ (y : InnerCell). y.child) is_x;
      more_held = subst P is_x held.1;
      more_rooted = rooted;
    }
next_of one pages page front cell back right (Right p child) has held rooted =
    let same = top_is one pages front (Right p child) page (InteriorPage (front ++ cell ∷ back) right) held rooted has in
    absurd (omega (arith, ap (λ (l : List InnerCell). length l) (ap inner_cells same), length-append front (cell ∷ back)))

-- its right-most child, where all cells stand in front
pub record IsLast (pages : Pages) (page right : ℕ) (tree : Tree) : Type 0 where
  pub child : Tree
  pub is : tree ≡ Right page child
  pub held : Holds pages child
  pub rooted : root_of child ≡ right

pub last_of : OnePage → (pages : Pages) (page : ℕ) (cells : List InnerCell) (right : ℕ) (tree : Tree) → HasCells pages page (InteriorPage cells right)
    → HoldsBehind pages cells tree → root_of tree ≡ page → IsLast pages page right tree
last_of one pages page cells right (Leaf p rows) has held rooted =
    let same = top_is one pages cells (Leaf p rows) page (InteriorPage cells right) held rooted has in
    absurd (omega (arith, ap is_interior same))
last_of one pages page cells right (Child child key more) has held rooted =
    let same = top_is one pages cells (Child child key more) page (InteriorPage cells right) held rooted has in
    let x : InnerCell = record { child = root_of child; rowid = key } in
    let lists : cells ++ x ∷ behind more ≡ cells = sym (listed pages cells x more held.1).0 ∙ ap inner_cells same in
    absurd (omega (arith, ap (λ (l : List InnerCell). length l) lists, length-append cells (x ∷ behind more)))
last_of one pages page cells right (Right p child) has held rooted =
    let same = top_is one pages cells (Right p child) page (InteriorPage cells right) held rooted has in
    record { child = child; is = ap (λ (n : ℕ). Right n child) rooted; held = held.1; rooted = ap right_most same }
