-- The rows of a whole tree rise.
use Rattle.std.proofs.Common.{◌≡◌, ℕ, ℤ, ◌≤ℤ◌, ◌<ℤ◌, List, [], ◌∷◌, ◌++◌, map, refl, sym, ap, subst, ◌∙◌}
use Rattle.std.specs.List.{AllByRecursion}
use Rattle.page_list.specs.Pages.{Pages}
use Rattle.tree_page.specs.Page.{AreRising, AreAbove, Cell, leaf, rowid_of}
use Rattle.tree_page.specs.declared.cell.LeafCell.{LeafCell}
use Rattle.tree_page.specs.declared.cell.InnerCell.{InnerCell}
use Rattle.tree_page.specs.declared.cell.PageCells.TheVariants.{Leaf as LeafPage}
use Rattle.tree_model.specs.Tree.{Row, Tree, Leaf, Child, Right, rowid, rows_of, Within, IsOrdered}
use Rattle.tree_model.specs.Held.{HasCells, HoldsBehind}
use Rattle.tree_model.specs.Whole.{IsWholeTree, below_all, greatest}
use Rattle.tree_model.specs.Laws.{Rises, RowsRise}
use Rattle.tree_model.proofs.IntLemmas.{le_lt_ℤ, le_trans_ℤ, lt_le_ℤ}

-- the rows rise above a bound, and reach at most another
abbrev pub RisesTo : ℤ → ℤ → List Row → Type 0
RisesTo last high [] = last ≤ℤ high
RisesTo last high (row ∷ more) = (last <ℤ rowid row) × RisesTo (rowid row) high more

rises_from_less : (low last high : ℤ) (rows : List Row) → low ≤ℤ last → RisesTo last high rows → RisesTo low high rows
rises_from_less low last high [] less rise = le_trans_ℤ low last high less rise
rises_from_less low last high (row ∷ more) less rise = (le_lt_ℤ low last (rowid row) less rise.0, rise.1)

pub rises_on : (low mid high : ℤ) (xs ys : List Row) → RisesTo low mid xs → RisesTo mid high ys → RisesTo low high (xs ++ ys)
rises_on low mid high [] ys a b = rises_from_less low mid high ys a b
rises_on low mid high (x ∷ xs) ys a b = (a.0, rises_on (rowid x) mid high xs ys a.1 b)

-- the rowids of a leaf's rows rise, as its page says
map_leaf : (cells : List LeafCell) → map rowid_of (map leaf cells) ≡ map (λ cell. cell.rowid) cells
map_leaf [] = refl
map_leaf (cell ∷ more) = ap (λ (l : List ℤ). cell.rowid ∷ l) (map_leaf more)

map_placed : {A : Type 0} (f : A → Cell) (xs : List A) → map (λ x. rowid_of (f x)) xs ≡ map rowid_of (map f xs)
map_placed f [] = refl
map_placed f (x ∷ xs) = ap (λ (l : List ℤ). rowid_of (f x) ∷ l) (map_placed f xs)

pub leaf_rising : (pages : Pages) (page : ℕ) (cells : List LeafCell) → HasCells pages page (LeafPage cells) → AreRising (map (λ cell. cell.rowid) cells)
leaf_rising pages page cells has =
    let P : List ℤ → Type 0 = AreRising in
    subst P (map_placed (λ p. p.cell) has.reads.placed ∙ ap (map rowid_of) (sym has.reads.cells_are) ∙ map_leaf cells) has.reads.rising

map_rows : (rows : List Row) → map (λ cell. cell.rowid) (map (λ row. row.cell) rows) ≡ map rowid rows
map_rows [] = refl
map_rows (row ∷ more) = ap (λ (l : List ℤ). rowid row ∷ l) (map_rows more)

above_rises : (last high : ℤ) (rows : List Row) → last ≤ℤ high → AreAbove last (map rowid rows) → (low : ℤ) → AllByRecursion (λ row. Within low high (rowid row)) rows → RisesTo last high rows
above_rises last high [] less above low within = less
above_rises last high (row ∷ more) less above low within = (above.0, above_rises (rowid row) high more within.0.1 above.1 low within.1)

leaf_rises : (low high : ℤ) (rows : List Row) → low ≤ℤ high → AreRising (map rowid rows) → AllByRecursion (λ row. Within low high (rowid row)) rows → RisesTo low high rows
leaf_rises low high [] less rising within = less
leaf_rises low high (row ∷ more) less rising within = (within.0.0, above_rises (rowid row) high more within.0.1 rising low within.1)

pub tree_rises : (pages : Pages) (front : List InnerCell) (low high : ℤ) (tree : Tree) → low ≤ℤ high → HoldsBehind pages front tree → IsOrdered low high tree → RisesTo low high (rows_of tree)
tree_rises pages front low high (Leaf page rows) less holds ordered =
    let P : List ℤ → Type 0 = AreRising in
    leaf_rises low high rows less (subst P (map_rows rows) (leaf_rising pages page _ holds.1)) ordered
tree_rises pages front low high (Child child key more) less holds ordered =
    rises_on low key high (rows_of child) (rows_of more)
    (tree_rises pages [] low key child (lt_le_ℤ low key ordered.0.0) holds.0 ordered.1)
    (tree_rises pages _ key high more ordered.0.1 holds.1 ordered.2)
tree_rises pages front low high (Right page child) less holds ordered = tree_rises pages [] low high child less holds.1 ordered

rises_only : (last high : ℤ) (rows : List Row) → RisesTo last high rows → Rises last rows
rises_only last high [] rise = tt
rises_only last high (row ∷ more) rise = (rise.0, rises_only (rowid row) high more rise.1)

pub bounds_rise : below_all ≤ℤ greatest
bounds_rise = record { le = tt }

pub whole_rises : (pages : Pages) (root : ℕ) (tree : Tree) → IsWholeTree pages root tree → RisesTo below_all greatest (rows_of tree)
whole_rises pages root tree whole = tree_rises pages [] below_all greatest tree bounds_rise whole.held whole.ordered

pub rows_rise : RowsRise
rows_rise pages root tree whole = rises_only below_all greatest (rows_of tree) (whole_rises pages root tree whole)
