-- Whole pages use no more than they may need: every interior page but page 1 has two children, every leaf but a root a row.
use Rattle.std.proofs.Common.{◌≡◌, ℕ, ◌+◌, ◌*◌, ◌-◌, ◌≤◌, max, List, [], ◌∷◌, ◌++◌, length, map, take, refl, sym, ap, subst, ◌∙◌, arith, length-append}
use Rattle.std.specs.List.{flat_map, AllByRecursion, AllZip}
use Rattle.std.proofs.lemmas.List.{map-append, length-map, length-take-le}
use Rattle.std.proofs.lemmas.Grind.{flat_map-append}
use Rattle.db_format.specs.Spill.{local_size}
use Rattle.page_list.specs.Pages.{Pages, AreSized}
use Rattle.page_list.specs.Chain.{pages_needed}
use Rattle.tree_page.specs.Page.{Cell, leaf, Placed, Stands, Spells, content_start}
use Rattle.tree_page.specs.declared.cell.LeafCell.{LeafCell}
use Rattle.tree_page.specs.declared.cell.InnerCell.{InnerCell}
use Rattle.tree_page.specs.declared.cell.PageCells.TheVariants.{Leaf as LeafPage}
use Rattle.tree_model.specs.Tree.{Row, Tree, Leaf, Child, Right, rows_of, pages_of, IsFilled, IsFilledRoot}
use Rattle.tree_model.specs.Held.{HasCells, HasRow, HoldsBehind}
use Rattle.tree_model.specs.Whole.{IsWholeTree, first_page}
use Rattle.tree_model.specs.Need.{chain_pages, chains_pages, need_of_rows, need_of_trees}
use Rattle.tree_model.specs.Laws.{chains_of}
use Rattle.tree_laws.specs.Replace.{UseWithinNeed}

-- the pages of a tree, those of chains aside
abbrev pub nodes : Tree → ℕ
nodes (Leaf page rows) = 1
nodes (Child child key more) = nodes child + nodes more
nodes (Right page child) = 1 + nodes child

few : (tree : Tree) → (IsFilled 0 tree → nodes tree + 1 ≤ 2 * length (rows_of tree)) × ((cells : ℕ) → IsFilled cells tree → nodes tree ≤ 2 * length (rows_of tree))
few (Leaf page rows) = (λ filled. omega (arith, filled), λ cells filled. omega (arith, filled))
few (Child child key more) = (
  λ filled. omega (arith, (few child).0 filled.0, (few more).1 (0 + 1) filled.1, length-append (rows_of child) (rows_of more)),
  λ cells filled. omega (arith, (few child).0 filled.0, (few more).1 (cells + 1) filled.1, length-append (rows_of child) (rows_of more)),
)
few (Right page child) = (λ filled. absurd (omega (arith, filled.0)), λ cells filled. omega (arith, (few child).0 filled.1))

few_nodes : (tree : Tree) → IsFilledRoot tree → nodes tree ≤ 2 * max 1 (length (rows_of tree))
few_nodes (Leaf page rows) filled = omega arith
few_nodes (Child child key more) filled =
    omega (arith, (few child).0 filled.0, (few more).1 1 filled.1, length-append (rows_of child) (rows_of more))
few_nodes (Right page child) filled = omega (arith, (few child).0 filled.1)

-- the chains of two lists of rows
chains_both : (xs ys : List Row) → length (chains_of (xs ++ ys)) ≡ length (chains_of xs) + length (chains_of ys)
chains_both xs ys = ap (λ (l : List ℕ). length l) (flat_map-append (λ (row : Row). row.chain) xs ys) ∙ length-append (chains_of xs) (chains_of ys)

-- its pages are these and those of its chains
pub all_pages : (tree : Tree) → length (pages_of tree) ≡ nodes tree + length (chains_of (rows_of tree))
all_pages (Leaf page rows) = omega arith
all_pages (Child child key more) =
    omega (arith, length-append (pages_of child) (pages_of more), all_pages child, all_pages more, chains_both (rows_of child) (rows_of more))
all_pages (Right page child) = omega (arith, all_pages child)

-- a cell keeps what the spill rule says
abbrev KeepsLocal : ℕ → LeafCell → Type 0
KeepsLocal usable cell = length cell.local ≡ local_size usable cell.payload_len

stands_keeps : (bytes : List ℕ) (content : ℕ) (placed : Placed) (cell : LeafCell) → Stands bytes content placed → leaf cell ≡ placed.cell → KeepsLocal (length bytes) cell
stands_keeps bytes content placed cell stands is =
    let P : Cell → Type 0 = λ c. Spells (length bytes) stands.cell_is.text c in
    (subst P (sym is) stands.cell_is.spelled).kept

all_keep : (bytes : List ℕ) (content : ℕ) (placed : List Placed) (cells : List LeafCell) → AllByRecursion (Stands bytes content) placed
    → map leaf cells ≡ map (λ (p : Placed). p.cell) placed → AllByRecursion (KeepsLocal (length bytes)) cells
all_keep bytes content [] [] stand is = tt
all_keep bytes content [] (cell ∷ more) stand is = cc
all_keep bytes content (p ∷ placed) [] stand is = cc
all_keep bytes content (p ∷ placed) (cell ∷ more) stand is =
    (stands_keeps bytes content p cell stand.0 cc, all_keep bytes content placed more stand.1 cc)

cells_keep : (page_size : ℕ) (pages : Pages) (page : ℕ) (cells : List LeafCell) → AreSized page_size pages → HasCells pages page (LeafPage cells)
    → AllByRecursion (KeepsLocal pages.usable) cells
cells_keep page_size pages page cells sized has =
    let P : ℕ → Type 0 = λ u. AllByRecursion (KeepsLocal u) cells in
    subst P (length-take-le pages.usable (pages.bytes page) (omega (arith, sized.each page has.there, sized.most)))
    (all_keep (take pages.usable (pages.bytes page)) (content_start (take pages.usable (pages.bytes page)) page) has.reads.placed cells has.reads.stand has.reads.cells_are)

-- the chain of a row has the pages that its payload needs
row_chain : (pages : Pages) (row : Row) → KeepsLocal pages.usable row.cell → HasRow pages row → length row.chain ≡ chain_pages pages.usable (length row.payload)
row_chain pages row keeps has =
    let long = ap (λ (l : List ℕ). length l) has.joined ∙ length-append row.cell.local has.rest in
    let kept = keeps ∙ ap (local_size pages.usable) (sym has.whole) in
    let rest : length has.rest ≡ length row.payload - local_size pages.usable (length row.payload) = omega (arith, long, kept) in
    has.chained.enough ∙ ap (pages_needed pages.usable) rest

abbrev lengths : List Row → List ℕ
lengths rows = map (λ row. length row.payload) rows

rows_chains : (pages : Pages) (rows : List Row) → AllByRecursion (KeepsLocal pages.usable) (map (λ (row : Row). row.cell) rows) → AllByRecursion (HasRow pages) rows
    → length (chains_of rows) ≡ chains_pages pages.usable (lengths rows)
rows_chains pages [] keep has = refl
rows_chains pages (row ∷ more) keep has =
    omega (arith, length-append row.chain (chains_of more), row_chain pages row keep.0 has.0, rows_chains pages more keep.1 has.1)

chains_add : (usable : ℕ) (xs ys : List ℕ) → chains_pages usable (xs ++ ys) ≡ chains_pages usable xs + chains_pages usable ys
chains_add usable [] ys = omega arith
chains_add usable (x ∷ xs) ys = omega (arith, chains_add usable xs ys)

tree_chains : (page_size : ℕ) (pages : Pages) (front : List InnerCell) (tree : Tree) → AreSized page_size pages → HoldsBehind pages front tree
    → length (chains_of (rows_of tree)) ≡ chains_pages pages.usable (lengths (rows_of tree))
tree_chains page_size pages front (Leaf page rows) sized holds = rows_chains pages rows (cells_keep page_size pages page _ sized holds.1) holds.2
tree_chains page_size pages front (Child child key more) sized holds =
    omega (
      arith,
      chains_both (rows_of child) (rows_of more),
      tree_chains page_size pages [] child sized holds.0,
      tree_chains page_size pages (front ++ _ ∷ []) more sized holds.1,
      ap (chains_pages pages.usable) (map-append (λ (row : Row). length row.payload) (rows_of child) (rows_of more)),
      chains_add pages.usable (lengths (rows_of child)) (lengths (rows_of more)),
    )
tree_chains page_size pages front (Right page child) sized holds = tree_chains page_size pages [] child sized holds.1

tree_within : (page_size : ℕ) (pages : Pages) (root : ℕ) (tree : Tree) → AreSized page_size pages → IsWholeTree pages root tree
    → length (pages_of tree) ≤ need_of_rows pages.usable (lengths (rows_of tree))
tree_within page_size pages root tree sized whole =
    omega (
      arith,
      all_pages tree,
      few_nodes tree whole.filled,
      tree_chains page_size pages [] tree sized whole.held,
      length-map (rows_of tree) (λ (row : Row). length row.payload),
    )

trees_within : (page_size : ℕ) (pages : Pages) (roots : List ℕ) (trees : List Tree) → AreSized page_size pages → AllZip (IsWholeTree pages) roots trees
    → length (flat_map pages_of trees) ≤ need_of_trees pages.usable trees
trees_within page_size pages [] [] sized whole = omega arith
trees_within page_size pages [] (tree ∷ trees) sized whole = absurd whole
trees_within page_size pages (root ∷ roots) [] sized whole = absurd whole
trees_within page_size pages (root ∷ roots) (tree ∷ trees) sized whole =
    omega (
      arith,
      length-append (pages_of tree) (flat_map pages_of trees),
      tree_within page_size pages root tree sized whole.0,
      trees_within page_size pages roots trees sized whole.1,
    )

pub use_within_need : UseWithinNeed
use_within_need page_size pages roots trees trunks sized whole =
    omega (arith, length-append (first_page roots) (flat_map pages_of trees), trees_within page_size pages roots trees sized whole.each_tree)
