-- Pages hold one tree from a root at most.
use Rattle.std.proofs.Common.{◌≡◌, ℕ, ℤ, List, [], ◌∷◌, ◌++◌, length, map, refl, sym, ap, ap₂, subst, ◌∙◌, arith, append_assoc, length-append}
use Rattle.std.proofs.lemmas.List.{append_cancel_left}
use Rattle.std.specs.List.{AllByRecursion}
use Rattle.page_list.specs.Pages.{Pages}
use Rattle.page_list.specs.Chain.{IsChain, OneChain}
use Rattle.tree_page.specs.Page.{OnePage}
use Rattle.tree_page.specs.declared.cell.LeafCell.{LeafCell}
use Rattle.tree_page.specs.declared.cell.InnerCell.{InnerCell}
use Rattle.tree_page.specs.declared.cell.PageCells.{PageCells}
use Rattle.tree_page.specs.declared.cell.PageCells.TheVariants.{Leaf as LeafPage, Interior as InteriorPage}
use Rattle.tree_model.specs.Tree.{Row, Tree, Leaf, Child, Right, root_of}
use Rattle.tree_model.specs.Held.{HasCells, HasRow, HoldsBehind}
use Rattle.tree_model.specs.Laws.{OneTree}

-- the cells of the page at the top, where these stand in front
abbrev pub cells_at : List InnerCell → Tree → PageCells
cells_at front (Leaf page rows) = LeafPage (map (λ row. row.cell) rows)
cells_at front (Child child key more) = cells_at (front ++ record { child = root_of child; rowid = key } ∷ []) more
cells_at front (Right page child) = InteriorPage front (root_of child)

pub top_cells : (pages : Pages) (front : List InnerCell) (tree : Tree) → HoldsBehind pages front tree → HasCells pages (root_of tree) (cells_at front tree)
top_cells pages front (Leaf page rows) holds = holds.1
top_cells pages front (Child child key more) holds = top_cells pages _ more holds.1
top_cells pages front (Right page child) holds = holds.0

-- the cells of an interior page, none of a leaf
abbrev pub inner_cells : PageCells → List InnerCell
inner_cells (LeafPage cells) = []
inner_cells (InteriorPage cells right) = cells

abbrev pub right_most : PageCells → ℕ
right_most (LeafPage cells) = 0
right_most (InteriorPage cells right) = right

abbrev pub leaf_cells : PageCells → List LeafCell
leaf_cells (LeafPage cells) = cells
leaf_cells (InteriorPage cells right) = []

abbrev pub is_interior : PageCells → ℕ
is_interior (LeafPage cells) = 0
is_interior (InteriorPage cells right) = 1

-- a tree behind a cell is that of an interior page, which has the cells in front and others
abbrev pub behind : Tree → List InnerCell
behind (Leaf page rows) = []
behind (Child child key more) = record { child = root_of child; rowid = key } ∷ behind more
behind (Right page child) = []

abbrev front_or : InnerCell → List InnerCell → InnerCell
front_or d [] = d
front_or d (x ∷ xs) = x

pub nothing_in : (xs : List InnerCell) (x : InnerCell) → ¬ (xs ++ x ∷ [] ≡ [])
nothing_in xs x e = omega (arith, ap (λ (l : List InnerCell). length l) e, length-append xs (x ∷ []))

pub listed : (pages : Pages) (front : List InnerCell) (x : InnerCell) (tree : Tree) → HoldsBehind pages (front ++ x ∷ []) tree
    → (inner_cells (cells_at (front ++ x ∷ []) tree) ≡ front ++ x ∷ behind tree) × (is_interior (cells_at (front ++ x ∷ []) tree) ≡ 1)
listed pages front x (Leaf page rows) holds = absurd (nothing_in front x holds.0)
listed pages front x (Child child key more) holds =
    let next = listed pages (front ++ x ∷ []) (record { child = root_of child; rowid = key }) more holds.1 in
    (next.0 ∙ append_assoc front (x ∷ []) (behind (Child child key more)), next.1)
listed pages front x (Right page child) holds = (refl, refl)

row_is : (a b : Row) → a.cell ≡ b.cell → a.chain ≡ b.chain → a.payload ≡ b.payload → a ≡ b
row_is a b p q r =
    ap (λ (c : LeafCell). record { cell = c; chain = a.chain; payload = a.payload }) p
    ∙ ap (λ (c : List ℕ). record { cell = b.cell; chain = c; payload = a.payload }) q
    ∙ ap (λ (c : List ℕ). record { cell = b.cell; chain = b.chain; payload = c }) r

pub same_row : OneChain → (pages : Pages) (a b : Row) → a.cell ≡ b.cell → HasRow pages a → HasRow pages b → a ≡ b
same_row one pages a b e ha hb =
    let same_local : length a.cell.local ≡ length b.cell.local = ap (λ (c : LeafCell). length c.local) e in
    let same_len : a.cell.payload_len ≡ b.cell.payload_len = ap (λ (c : LeafCell). c.payload_len) e in
    let lens : length ha.rest ≡ length hb.rest = omega (arith, ha.whole, hb.whole, same_local, same_len, ap (λ (l : List ℕ). length l) ha.joined, ap (λ (l : List ℕ). length l) hb.joined, length-append a.cell.local ha.rest, length-append b.cell.local hb.rest) in
    let P : ℕ → Type 0 = λ first. IsChain pages first a.chain ha.rest in
    let same = one.one pages b.cell.overflow a.chain b.chain ha.rest hb.rest (subst P (ap (λ (c : LeafCell). c.overflow) e) ha.chained) hb.chained lens in
    row_is a b e same.0 (ha.joined ∙ ap₂ (λ (x y : List ℕ). x ++ y) (ap (λ (c : LeafCell). c.local) e) same.1 ∙ sym hb.joined)

same_rows : OneChain → (pages : Pages) (xs ys : List Row) → map (λ row. row.cell) xs ≡ map (λ row. row.cell) ys → AllByRecursion (HasRow pages) xs → AllByRecursion (HasRow pages) ys → xs ≡ ys
same_rows one pages [] [] e hx hy = refl
same_rows one pages [] (y ∷ ys) e hx hy = absurd (omega (arith, ap (λ (l : List LeafCell). length l) e))
same_rows one pages (x ∷ xs) [] e hx hy = absurd (omega (arith, ap (λ (l : List LeafCell). length l) e))
same_rows one pages (x ∷ xs) (y ∷ ys) e hx hy =
    let heads : x.cell ≡ y.cell = cc in
    let tails : map (λ row. row.cell) xs ≡ map (λ row. row.cell) ys = cc in
    ap₂ (λ (r : Row) (l : List Row). r ∷ l) (same_row one pages x y heads hx.0 hy.0) (same_rows one pages xs ys tails hx.1 hy.1)

-- what is known of the cells of two trees behind the same cells in front
abbrev pub SameCells : List InnerCell → Tree → Tree → Type 0
SameCells front a b = cells_at front a ≡ cells_at front b

abbrev pub IsOne : Pages → Tree → Type 0
IsOne pages a = (front : List InnerCell) (b : Tree) → HoldsBehind pages front a → HoldsBehind pages front b → root_of a ≡ root_of b → a ≡ b

same_top : OnePage → (pages : Pages) (front : List InnerCell) (a b : Tree) → HoldsBehind pages front a → HoldsBehind pages front b → root_of a ≡ root_of b → SameCells front a b
same_top one pages front a b ha hb e =
    let P : ℕ → Type 0 = λ root. HasCells pages root (cells_at front a) in
    let top = subst P e (top_cells pages front a ha) in
    one (pages.bytes (root_of b)) (root_of b) pages.usable _ _ top.reads (top_cells pages front b hb).reads

-- a leaf, or an interior page with its last child, has the number of cells that it has
leaf_only : (front : List InnerCell) (page : ℕ) (rows : List Row) → is_interior (cells_at front (Leaf page rows)) ≡ 0
leaf_only front page rows = refl

child_inner : (pages : Pages) (front : List InnerCell) (child : Tree) (key : ℤ) (more : Tree) → HoldsBehind pages front (Child child key more)
    → (inner_cells (cells_at front (Child child key more)) ≡ front ++ behind (Child child key more)) × (is_interior (cells_at front (Child child key more)) ≡ 1)
child_inner pages front child key more holds = listed pages front (record { child = root_of child; rowid = key }) more holds.1

pub one_behind : OnePage → OneChain → (pages : Pages) (a : Tree) → IsOne pages a
one_behind op oc pages (Leaf page rows) front (Leaf page' rows') ha hb e =
    let cells = same_top op pages front (Leaf page rows) (Leaf page' rows') ha hb e in
    ap₂ (λ (p : ℕ) (rs : List Row). Leaf p rs) e (same_rows oc pages rows rows' (ap leaf_cells cells) ha.2 hb.2)
one_behind op oc pages (Leaf page rows) front (Child child' key' more') ha hb e =
    absurd (omega (arith, ap is_interior (same_top op pages front (Leaf page rows) (Child child' key' more') ha hb e), (child_inner pages front child' key' more' hb).1))
one_behind op oc pages (Leaf page rows) front (Right page' child') ha hb e =
    absurd (omega (arith, ap is_interior (same_top op pages front (Leaf page rows) (Right page' child') ha hb e)))
one_behind op oc pages (Child child key more) front (Leaf page' rows') ha hb e =
    absurd (omega (arith, ap is_interior (same_top op pages front (Child child key more) (Leaf page' rows') ha hb e), (child_inner pages front child key more ha).1))
one_behind op oc pages (Child child key more) front (Child child' key' more') ha hb e =
    let x : InnerCell = record { child = root_of child; rowid = key } in
    let y : InnerCell = record { child = root_of child'; rowid = key' } in
    let cells = ap inner_cells (same_top op pages front (Child child key more) (Child child' key' more') ha hb e) in
    let lists : behind (Child child key more) ≡ behind (Child child' key' more') = append_cancel_left front _ _ (sym (child_inner pages front child key more ha).0 ∙ cells ∙ (child_inner pages front child' key' more' hb).0) in
    let xy : x ≡ y = ap (front_or y) lists in
    let roots : root_of child ≡ root_of child' = ap (λ (c : InnerCell). c.child) xy in
    let keys : key ≡ key' = ap (λ (c : InnerCell). c.rowid) xy in
    let first = one_behind op oc pages child [] child' ha.0 hb.0 roots in
    let P : InnerCell → Type 0 = λ cell. HoldsBehind pages (front ++ cell ∷ []) more' in
    let rest = one_behind op oc pages more (front ++ x ∷ []) more' ha.1 (subst P (sym xy) hb.1) e in
    ap (λ (c : Tree). Child c key more) first ∙ ap (λ (k : ℤ). Child child' k more) keys ∙ ap (λ (m : Tree). Child child' key' m) rest
one_behind op oc pages (Child child key more) front (Right page' child') ha hb e =
    let cells = ap inner_cells (same_top op pages front (Child child key more) (Right page' child') ha hb e) in
    let lens = ap (λ (l : List InnerCell). length l) (sym (child_inner pages front child key more ha).0 ∙ cells) in
    absurd (omega (arith, lens, length-append front (behind (Child child key more))))
one_behind op oc pages (Right page child) front (Leaf page' rows') ha hb e =
    absurd (omega (arith, ap is_interior (same_top op pages front (Right page child) (Leaf page' rows') ha hb e)))
one_behind op oc pages (Right page child) front (Child child' key' more') ha hb e =
    let cells = ap inner_cells (same_top op pages front (Right page child) (Child child' key' more') ha hb e) in
    let lens = ap (λ (l : List InnerCell). length l) (cells ∙ (child_inner pages front child' key' more' hb).0) in
    absurd (omega (arith, lens, length-append front (behind (Child child' key' more'))))
one_behind op oc pages (Right page child) front (Right page' child') ha hb e =
    let below = one_behind op oc pages child [] child' ha.1 hb.1 (ap right_most (same_top op pages front (Right page child) (Right page' child') ha hb e)) in
    ap₂ (λ (p : ℕ) (t : Tree). Right p t) e below

pub one_tree : OnePage → OneChain → OneTree
one_tree op oc pages a b ha hb e = one_behind op oc pages a [] b ha hb e
