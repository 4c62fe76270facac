-- The trees below a page are those of its cells.
use Rattle.std.proofs.Common.{◌≡◌, ℕ, suc, ◌+◌, ◌≤◌, ◌<◌, ℤ, Option, Some, List, [], ◌∷◌, ◌++◌, length, map, take, get_or, refl, sym, ap, subst, ◌∙◌, arith, append_assoc, length-append}
use Rattle.std.proofs.lemmas.List.{append-nil, take_more, take_all}
use Rattle.std.specs.List.{AllByRecursion}
use Rattle.page_list.specs.Pages.{Pages}
use Rattle.tree_page.specs.Page.{OnePage}
use Rattle.tree_page.specs.declared.cell.LeafCell.{LeafCell}
use Rattle.tree_page.specs.declared.cell.InnerCell.{InnerCell}
use Rattle.tree_page.specs.declared.cell.PageCells.{PageCells}
use Rattle.tree_page.specs.declared.cell.PageCells.TheVariants.{Leaf as LeafPage, Interior as InteriorPage}
use Rattle.tree_model.specs.Tree.{Row, Tree, Leaf, Child, Right, root_of}
use Rattle.tree_model.specs.Held.{HasCells, HoldsBehind, Holds}
use Rattle.ref_trees.specs.Gathered.{height, HasTree}
use Rattle.ref_trees.specs.GatherSteps.{low_of, last_key, Tells, Gathers, AreRowsOf}
use Rattle.ref_trees.specs.declared.gather.Summary.{Summary}

-- some tree from a page
pub record Below (pages : Pages) (levels page : ℕ) : Type 0 where
  pub tree : Tree
  pub has : HasTree pages levels page tree

-- an interior page, behind some of its cells
pub record Spine (pages : Pages) (levels : ℕ) (front : List InnerCell) (page : ℕ) : Type 0 where
  pub rest : List InnerCell
  pub right : ℕ
  pub cells : HasCells pages page (InteriorPage (front ++ rest) right)
  pub each : AllByRecursion (λ cell. Below pages levels cell.child) rest
  pub last : Below pages levels right

abbrev Shape : Pages → ℕ → List InnerCell → Tree → Type 0
Shape pages levels front (Leaf page rows) = front ≡ []
Shape pages levels front (Child child key more) = Spine pages levels front (root_of more)
Shape pages levels front (Right page child) = Spine pages levels front page

one_back : (pages : Pages) (levels : ℕ) (front : List InnerCell) (x : InnerCell) (page : ℕ) → Below pages levels x.child → Spine pages levels (front ++ x ∷ []) page
    → Spine pages levels front page
one_back pages levels front x page below s =
    let P : List InnerCell → Type 0 = λ cells. HasCells pages page (InteriorPage cells s.right) in
    record { rest = x ∷ s.rest; right = s.right; cells = subst P (append_assoc front (x ∷ []) s.rest) s.cells; each = (below, s.each); last = s.last }

shift : (pages : Pages) (levels : ℕ) (front : List InnerCell) (x : InnerCell) (tree : Tree) → Below pages levels x.child → Shape pages levels (front ++ x ∷ []) tree
    → Spine pages levels front (root_of tree)
shift pages levels front x (Leaf page rows) below none = absurd (omega (arith, ap (λ (l : List InnerCell). length l) none, length-append front (x ∷ [])))
shift pages levels front x (Child child key more) below s = one_back pages levels front x (root_of more) below s
shift pages levels front x (Right page child) below s = one_back pages levels front x page below s

shape : (pages : Pages) (levels : ℕ) (front : List InnerCell) (tree : Tree) → HoldsBehind pages front tree → height tree ≤ suc levels → Shape pages levels front tree
shape pages levels front (Leaf page rows) held low = held.0
shape pages levels front (Child child key more) held low =
    let x : InnerCell = record { child = root_of child; rowid = key } in
    let below : Below pages levels x.child = record { tree = child; has = record { held = held.0; rooted = refl; low = omega arith } } in
    shift pages levels front x more below (shape pages levels (front ++ x ∷ []) more held.1 (omega arith))
shape pages levels front (Right page child) held low =
    let P : List InnerCell → Type 0 = λ cells. HasCells pages page (InteriorPage cells (root_of child)) in
    record {
      rest = [];
      right = root_of child;
      cells = subst P (sym (append-nil front)) held.0;
      each = tt;
      last = record { tree = child; has = record { held = held.1; rooted = refl; low = omega arith } };
    }

same_cells : OnePage → (pages : Pages) (p q : ℕ) (a b : PageCells) → HasCells pages p a → HasCells pages q b → p ≡ q → a ≡ b
same_cells one pages p q a b has_a has_b same =
    let P : ℕ → Type 0 = λ n. HasCells pages n a in
    one (pages.bytes q) q pages.usable a b (subst P same has_a).reads has_b.reads

-- what is below an interior page with these cells
pub record AllBelow (pages : Pages) (levels : ℕ) (cells : List InnerCell) (right : ℕ) : Type 0 where
  pub each : AllByRecursion (λ cell. Below pages levels cell.child) cells
  pub last : Below pages levels right

of_spine : OnePage → (pages : Pages) (levels page page' : ℕ) (cells : List InnerCell) (right : ℕ) → HasCells pages page (InteriorPage cells right) → page' ≡ page
    → Spine pages levels [] page' → AllBelow pages levels cells right
of_spine one pages levels page page' cells right has same s =
    let e : InteriorPage s.rest s.right ≡ InteriorPage cells right = same_cells one pages page' page _ _ s.cells has same in
    let rest_is : s.rest ≡ cells = cc in
    let right_is : s.right ≡ right = cc in
    let P : List InnerCell → Type 0 = λ cs. AllByRecursion (λ cell. Below pages levels cell.child) cs in
    record { each = subst P rest_is s.each; last = subst (Below pages levels) right_is s.last }

leaf_is_not : (cells : List LeafCell) (inner : List InnerCell) (right : ℕ) → LeafPage cells ≡ InteriorPage inner right → ⊥
leaf_is_not cells inner right e = cc

pub interior_below : OnePage → (pages : Pages) (levels page : ℕ) (cells : List InnerCell) (right : ℕ) → HasCells pages page (InteriorPage cells right)
    → (tree : Tree) → HasTree pages (suc levels) page tree → AllBelow pages levels cells right
interior_below one pages levels page cells right has (Leaf page' rows) h =
    absurd (leaf_is_not _ _ _ (same_cells one pages page' page _ _ h.held.1 has h.rooted))
interior_below one pages levels page cells right has (Child child key more) h =
    of_spine one pages levels page (root_of more) cells right has h.rooted (shape pages levels [] (Child child key more) h.held h.low)
interior_below one pages levels page cells right has (Right page' child) h =
    of_spine one pages levels page page' cells right has h.rooted (shape pages levels [] (Right page' child) h.held h.low)

-- the rows of a leaf
pub record LeafRows (pages : Pages) (cells : List LeafCell) : Type 0 where
  pub rows : List Row
  pub are : AreRowsOf pages cells rows

not_leaf : OnePage → (pages : Pages) (page page' : ℕ) (levels : ℕ) (cells : List LeafCell) → HasCells pages page (LeafPage cells) → page' ≡ page → ¬ (Spine pages levels [] page')
not_leaf one pages page page' levels cells has same s = leaf_is_not _ _ _ (same_cells one pages page page' _ _ has s.cells (sym same))

pub leaf_below : OnePage → (pages : Pages) (levels page : ℕ) (cells : List LeafCell) → HasCells pages page (LeafPage cells)
    → (tree : Tree) → HasTree pages levels page tree → LeafRows pages cells
leaf_below one pages levels page cells has (Leaf page' rows) h =
    let e : LeafPage (map (λ (r : Row). r.cell) rows) ≡ LeafPage cells = same_cells one pages page' page _ _ h.held.1 has h.rooted in
    let cells_are : map (λ (r : Row). r.cell) rows ≡ cells = cc in
    record { rows = rows; are = record { cells_are = cells_are; each = h.held.2 } }
leaf_below one pages levels page cells has (Child child key more) h =
    absurd (not_leaf one pages page (root_of more) (height (Child child key more)) cells has h.rooted (shape pages _ [] (Child child key more) h.held (omega arith)))
leaf_below one pages levels page cells has (Right page' child) h =
    absurd (not_leaf one pages page page' (height (Right page' child)) cells has h.rooted (shape pages _ [] (Right page' child) h.held (omega arith)))

-- ---- an interior page put together from its right-most child on

pub last_key_more : (low : Option ℤ) (cells : List InnerCell) (cell : InnerCell) → last_key low (cells ++ cell ∷ []) ≡ Some cell.rowid
last_key_more low [] cell = refl
last_key_more low (first ∷ cells) cell = last_key_more (Some first.rowid) cells cell

pub last_key_at : (low : Option ℤ) (cells : List InnerCell) (at : ℕ) (cell : InnerCell) → at < length cells → cell ≡ get_or cells at cell
    → last_key low (take (at + 1) cells) ≡ Some cell.rowid
last_key_at low cells at cell within is =
    ap (last_key low) (take_more cells at cell within ∙ ap (λ (x : InnerCell). take at cells ++ x ∷ []) (sym is)) ∙ last_key_more low (take at cells) cell

-- the children from a place on, with the page
pub record IsPartly (pages : Pages) (levels page : ℕ) (cells : List InnerCell) (low : Option ℤ) (high : ℤ) (at : ℕ) (found : Summary) : Type 0 where
  pub tree : Tree
  pub held : HoldsBehind pages (take at cells) tree
  pub rooted : root_of tree ≡ page
  pub shallow : height tree ≤ suc levels
  pub tells : Tells at (low_of (last_key low (take at cells))) high tree found

pub partly_last : (pages : Pages) (levels page : ℕ) (cells : List InnerCell) (right : ℕ) (low : Option ℤ) (high : ℤ) (child found : Summary)
    → HasCells pages page (InteriorPage cells right) → Gathers pages levels right (low_of (last_key low (take (length cells) cells))) high child
    → ((tree : Tree) (l h : ℤ) → Tells 0 l h tree child → Tells (length cells) l h (Right page tree) found)
    → IsPartly pages levels page cells low high (length cells) found
partly_last pages levels page cells right low high child found has g tells =
    let P : List InnerCell → Type 0 = λ cs. HasCells pages page (InteriorPage cs (root_of g.tree)) in
    let Q : ℕ → Type 0 = λ r. HasCells pages page (InteriorPage cells r) in
    record {
      tree = Right page g.tree;
      held = (subst P (sym (take_all (length cells) cells (omega arith))) (subst Q (sym g.has_tree.rooted) has), g.has_tree.held);
      rooted = refl;
      shallow = omega (arith, g.has_tree.low);
      tells = tells g.tree _ high g.tells;
    }

pub partly_more : (pages : Pages) (levels page : ℕ) (cells : List InnerCell) (low : Option ℤ) (high : ℤ) (at : ℕ) (cell : InnerCell) (child more found : Summary)
    → at < length cells → cell ≡ get_or cells at cell → IsPartly pages levels page cells low high (at + 1) more
    → Gathers pages levels cell.child (low_of (last_key low (take at cells))) cell.rowid child
    → ((n : ℕ) (left right : Tree) → Tells 0 (low_of (last_key low (take at cells))) cell.rowid left child → Tells (n + 1) cell.rowid high right more
    → Tells n (low_of (last_key low (take at cells))) high (Child left cell.rowid right) found)
    → IsPartly pages levels page cells low high at found
partly_more pages levels page cells low high at cell child more found within is so_far g tells =
    let longer : take (at + 1) cells ≡ take at cells ++ cell ∷ [] = take_more cells at cell within ∙ ap (λ (x : InnerCell). take at cells ++ x ∷ []) (sym is) in
    let here : InnerCell = record { child = root_of g.tree; rowid = cell.rowid } in
    let same : cell ≡ here = ap (λ (n : ℕ). record { child = n; rowid = cell.rowid }) (sym g.has_tree.rooted) in
    let P : List InnerCell → Type 0 = λ cs. HoldsBehind pages cs so_far.tree in
    let Q : Option ℤ → Type 0 = λ key. Tells (at + 1) (low_of key) high so_far.tree more in
    record {
      tree = Child g.tree cell.rowid so_far.tree;
      held = (g.has_tree.held, subst P (longer ∙ ap (λ (x : InnerCell). take at cells ++ x ∷ []) same) so_far.held);
      rooted = so_far.rooted;
      shallow = omega (arith, g.has_tree.low, so_far.shallow);
      tells = tells at g.tree so_far.tree g.tells (subst Q (last_key_at low cells at cell within is) so_far.tells);
    }

pub partly_all : (pages : Pages) (levels page : ℕ) (cells : List InnerCell) (low : Option ℤ) (high : ℤ) (found : Summary) → IsPartly pages levels page cells low high 0 found
    → Gathers pages (suc levels) page (low_of low) high found
partly_all pages levels page cells low high found p =
    record { tree = p.tree; has_tree = record { held = p.held; rooted = p.rooted; low = p.shallow }; tells = p.tells }

-- ---- at the top of a tree

pub height_some : (tree : Tree) → 1 ≤ height tree
height_some (Leaf page rows) = omega arith
height_some (Child child key more) = omega (arith, height_some more)
height_some (Right page child) = omega arith

pub record Top (pages : Pages) (page : ℕ) : Type 0 where
  pub cells : PageCells
  pub has : HasCells pages page cells

of_shape : (pages : Pages) (levels page : ℕ) (front : List InnerCell) → Spine pages levels front page → Top pages page
of_shape pages levels page front s = record { cells = InteriorPage (front ++ s.rest) s.right; has = s.cells }

top_of : (pages : Pages) (tree : Tree) → Holds pages tree → Top pages (root_of tree)
top_of pages (Leaf page rows) held = record { cells = LeafPage (map (λ (r : Row). r.cell) rows); has = held.1 }
top_of pages (Child child key more) held = of_shape pages (height (Child child key more)) (root_of more) [] (shape pages _ [] (Child child key more) held (omega arith))
top_of pages (Right page child) held = of_shape pages (height (Right page child)) page [] (shape pages _ [] (Right page child) held (omega arith))

pub top_cells : (pages : Pages) (levels page : ℕ) (tree : Tree) → HasTree pages levels page tree → Top pages page
top_cells pages levels page tree h = subst (Top pages) h.rooted (top_of pages tree h.held)

pub interior_levels : OnePage → (pages : Pages) (levels page : ℕ) (cells : List InnerCell) (right : ℕ) → HasCells pages page (InteriorPage cells right)
    → (tree : Tree) → HasTree pages (levels + 1) page tree → AllBelow pages levels cells right
interior_levels one pages levels page cells right has tree h =
    let P : ℕ → Type 0 = λ n. HasTree pages n page tree in
    let more : levels + 1 ≡ suc levels = omega arith in
    interior_below one pages levels page cells right has tree (subst P more h)
