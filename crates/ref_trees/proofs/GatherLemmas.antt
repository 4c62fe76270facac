-- What is gathered of a tree, put together from its parts.
use Rattle.std.proofs.Common.{◌≡◌, ◌↔◌, ℕ, zero, suc, ◌+◌, ◌≤◌, ◌<◌, max, nat_eq, Bool, not, IsTrue, ℤ, List, [], ◌∷◌, ◌++◌, length, map, take, get_or, sym, ap, ap₂, subst, ◌∙◌, arith, tests}
use Rattle.std.proofs.lemmas.List.{take_more, map-append}
use Rattle.std.proofs.lemmas.Bool.{false≢true}
use Rattle.std.specs.List.{AllByRecursion}
use Rattle.page_list.specs.Pages.{Pages}
use Rattle.tree_page.specs.declared.cell.LeafCell.{LeafCell}
use Rattle.tree_model.specs.Tree.{Row, Tree, Leaf, Child, Right, Within, IsOrdered, HasDepth, IsFilled, IsFilledRoot}
use Rattle.tree_model.specs.Held.{HasRow}
use Rattle.ref_trees.specs.Gathered.{height}
use Rattle.ref_trees.specs.GatherSteps.{AreRowsOf}

-- ---- what holds of each of a list

pub each_push : {X : Type 0} (P : X → Type 0) (xs : List X) (x : X) → AllByRecursion P xs → P x → AllByRecursion P (xs ++ x ∷ [])
each_push P [] x all here = (here, tt)
each_push P (y ∷ ys) x all here = (all.0, each_push P ys x all.1 here)

pub each_at : {X : Type 0} (P : X → Type 0) (xs : List X) (i : ℕ) (d : X) → i < length xs → AllByRecursion P xs → P (get_or xs i d)
each_at P [] i d within all = absurd (omega arith)
each_at P (x ∷ xs) zero d within all = all.0
each_at P (x ∷ xs) (suc i) d within all = each_at P xs i d (omega arith) all.1

pub each_more : {X : Type 0} (P : X → Type 0) (xs : List X) (i : ℕ) (x : X) → i < length xs → x ≡ get_or xs i x → AllByRecursion P (take i xs) → P x → AllByRecursion P (take (i + 1) xs)
each_more P xs i x within is all here =
    let longer : take (i + 1) xs ≡ take i xs ++ x ∷ [] = take_more xs i x within ∙ ap (λ y. take i xs ++ y ∷ []) (sym is) in
    subst (AllByRecursion P) (sym longer) (each_push P (take i xs) x all here)

-- ---- depth

max-same : (a b : ℕ) → a ≡ b → max a b ≡ a
max-same a b e = omega arith

pub depth_is : (depth : ℕ) (tree : Tree) → HasDepth depth tree → depth ≡ height tree
depth_is depth (Leaf page rows) has = has
depth_is zero (Child child key more) has = absurd has
depth_is (suc depth) (Child child key more) has =
    let below = depth_is depth child has.0 in
    let beside = depth_is (suc depth) more has.1 in
    beside ∙ sym (omega arith)
depth_is zero (Right page child) has = absurd has
depth_is (suc depth) (Right page child) has = ap suc (depth_is depth child has)

level_to : (left right : Tree) (key : ℤ) → suc (height left) ≡ height right → HasDepth (height left) left → HasDepth (height right) right
    → HasDepth (max (suc (height left)) (height right)) (Child left key right)
level_to left right key same l r =
    let top : suc (height left) ≡ max (suc (height left)) (height right) = omega arith in
    let P : ℕ → Type 0 = λ d. HasDepth d (Child left key right) in
    let Q : ℕ → Type 0 = λ d. HasDepth d right in
    subst P top (l, subst Q (sym same) r)

-- the parts of a depth
pub record IsLevel (left right : Tree) : Type 0 where
  pub same : suc (height left) ≡ height right
  pub first : HasDepth (height left) left
  pub others : HasDepth (height right) right

level_from : (depth : ℕ) (left right : Tree) (key : ℤ) → HasDepth depth (Child left key right) → IsLevel left right
level_from zero left right key has = absurd has
level_from (suc depth) left right key has =
    let a = depth_is depth left has.0 in
    let b = depth_is (suc depth) right has.1 in
    let P : ℕ → Type 0 = λ d. HasDepth d left in
    let Q : ℕ → Type 0 = λ d. HasDepth d right in
    record {
      same = ap suc (sym a) ∙ b;
      first = subst P a has.0;
      others = subst Q b has.1;
    }

pub level_beside : (left right : Tree) (key : ℤ) (a b : ℕ) (x y both all : Bool) → a ≡ height left → b ≡ height right
    → IsTrue x ↔ HasDepth (height left) left → IsTrue y ↔ HasDepth (height right) right
    → IsTrue both ↔ IsTrue x × IsTrue y → IsTrue all ↔ IsTrue (nat_eq (a + 1) b) × IsTrue both
    → IsTrue all ↔ HasDepth (max (suc (height left)) (height right)) (Child left key right)
level_beside left right key a b x y both all ha hb hx hy hboth hall = (
  λ is.
      let parts = hall.0 is in
      let flags = hboth.0 parts.1 in
      let same : a + 1 ≡ b = grind (arith, tests, parts.0) in
      level_to left right key (omega arith) (hx.0 flags.0) (hy.0 flags.1),
  λ has.
      let parts = level_from _ left right key has in
      let same : a + 1 ≡ b = omega (arith, parts.same) in
      let test : IsTrue (nat_eq (a + 1) b) = grind (arith, tests, same) in
      hall.1 (test, hboth.1 (hx.1 parts.first, hy.1 parts.others)),
)

-- ---- order

pub ordered_beside : (low key high key' high' : ℤ) (left right : Tree) (within x y both all : Bool) → key' ≡ key → high' ≡ high → IsTrue within ↔ Within low high' key'
    → IsTrue x ↔ IsOrdered low key left → IsTrue y ↔ IsOrdered key high right
    → IsTrue both ↔ IsTrue x × IsTrue y → IsTrue all ↔ IsTrue within × IsTrue both
    → IsTrue all ↔ IsOrdered low high (Child left key right)
ordered_beside low key high key' high' left right within x y both all same_key same_high hw' hx hy hboth hall =
    let P : ℤ → Type 0 = λ k. IsTrue within ↔ Within low high' k in
    let Q : ℤ → Type 0 = λ h. IsTrue within ↔ Within low h key in
    let hw : IsTrue within ↔ Within low high key = subst Q same_high (subst P same_key hw') in (
      λ is. let parts = hall.0 is in let flags = hboth.0 parts.1 in (hw.0 parts.0, hx.0 flags.0, hy.0 flags.1),
      λ has. hall.1 (hw.1 has.0, hboth.1 (hx.1 has.1, hy.1 has.2)),
    )

-- ---- no page is empty

pub filled_beside : (cells : ℕ) (key : ℤ) (left right : Tree) (x y both : Bool) → IsTrue x ↔ IsFilled 0 left → IsTrue y ↔ IsFilled (cells + 1) right
    → IsTrue both ↔ IsTrue x × IsTrue y → IsTrue both ↔ IsFilled cells (Child left key right)
filled_beside cells key left right x y both hx hy hboth = (
  λ is. let flags = hboth.0 is in (hx.0 flags.0, hy.0 flags.1),
  λ has. hboth.1 (hx.1 has.0, hy.1 has.1),
)

pub root_beside : (cells : ℕ) (key : ℤ) (left right : Tree) (x y both : Bool) → IsTrue x ↔ IsFilled 0 left → IsTrue y ↔ IsFilled (cells + 1) right
    → IsTrue both ↔ IsTrue x × IsTrue y → cells ≡ 0 → IsTrue both ↔ IsFilledRoot (Child left key right)
root_beside cells key left right x y both hx hy hboth none =
    let P : ℕ → Type 0 = λ n. IsTrue y ↔ IsFilled (n + 1) right in
    let hz : IsTrue y ↔ IsFilled 1 right = subst P none hy in (
      λ is. let flags = hboth.0 is in (hx.0 flags.0, hz.0 flags.1),
      λ has. hboth.1 (hx.1 has.0, hz.1 has.1),
    )

-- ---- the rows of cells

pub rows_more : (pages : Pages) (cells : List LeafCell) (i : ℕ) (cell : LeafCell) (rows new : List Row) (row : Row) → i < length cells
    → cell ≡ get_or cells i cell → AreRowsOf pages (take i cells) rows → row.cell ≡ cell → HasRow pages row → new ≡ rows ++ row ∷ []
    → AreRowsOf pages (take (i + 1) cells) new
rows_more pages cells i cell rows new row within is so_far same has new_is =
    let longer : take (i + 1) cells ≡ take i cells ++ cell ∷ [] = take_more cells i cell within ∙ ap (λ (c : LeafCell). take i cells ++ c ∷ []) (sym is) in
    let both : map (λ (r : Row). r.cell) (rows ++ row ∷ []) ≡ take (i + 1) cells =
    map-append (λ (r : Row). r.cell) rows (row ∷ []) ∙ ap₂ (λ (a : List LeafCell) (b : LeafCell). a ++ b ∷ []) so_far.cells_are same ∙ sym longer in
    subst (AreRowsOf pages (take (i + 1) cells)) (sym new_is) (record { cells_are = both; each = each_push (HasRow pages) rows row so_far.each has })

-- one of these rows has the cell
pub record HasRowOf (pages : Pages) (cell : LeafCell) : Type 0 where
  pub row : Row
  pub of_cell : row.cell ≡ cell
  pub has : HasRow pages row

row_among : (pages : Pages) (rows : List Row) (i : ℕ) (cell : LeafCell) → i < length (map (λ (r : Row). r.cell) rows) → cell ≡ get_or (map (λ (r : Row). r.cell) rows) i cell
    → AllByRecursion (HasRow pages) rows → HasRowOf pages cell
row_among pages [] i cell within is each = absurd (omega arith)
row_among pages (row ∷ rows) zero cell within is each = record { row = row; of_cell = sym is; has = each.0 }
row_among pages (row ∷ rows) (suc i) cell within is each = row_among pages rows i cell (omega arith) is each.1

pub no_rows : (pages : Pages) (cells : List LeafCell) (i : ℕ) (cell : LeafCell) → i < length cells → cell ≡ get_or cells i cell
    → ((row : Row) → row.cell ≡ cell → ¬ (HasRow pages row)) → (rows : List Row) → ¬ (AreRowsOf pages cells rows)
no_rows pages cells i cell within is none rows are =
    let P : List LeafCell → Type 0 = λ cs. (i < length cs) × (cell ≡ get_or cs i cell) in
    let here = subst P (sym are.cells_are) (within, is) in
    let found = row_among pages rows i cell here.0 here.1 are.each in
    none found.row found.of_cell found.has

pub some_filled : (rows : List Row) → IsTrue (not (nat_eq (length rows) 0)) ↔ 1 ≤ length rows
some_filled [] = (λ e. absurd (false≢true e), λ e. absurd (omega arith))
some_filled (row ∷ rows) = (λ e. omega arith, λ e. grind (arith, tests))
