-- A whole tree stays whole where the rows of one leaf are replaced, and changes by just these rows and their chains.
use Rattle.std.proofs.Common.{◌≡◌, ◌≢◌, inl, inr, ℕ, zero, suc, ◌+◌, ◌≤◌, nat_eq, Bool, true, false, if◌then◌else◌, ℤ, List, [], ◌∷◌, ◌++◌, length, map, refl, sym, ap, ap₂, subst, ◌∙◌, arith, append_assoc, append-nil, eqb-true}
use Rattle.std.specs.List.{AllByRecursion}
use Rattle.std.proofs.lemmas.Bool.Decides.{nat_tests}
use Rattle.page_list.specs.Pages.{Pages, times, Among, AllDifferent}
use Rattle.tree_page.specs.declared.cell.InnerCell.{InnerCell}
use Rattle.tree_page.specs.declared.cell.PageCells.TheVariants.{Leaf as LeafPage, Interior as InteriorPage}
use Rattle.tree_model.specs.Tree.{Row, Tree, Leaf, Child, Right, root_of, rows_of, pages_of, IsOrdered, HasDepth, IsFilled, IsFilledRoot, with_leaf}
use Rattle.tree_model.specs.Held.{HasCells, HasRow, HoldsBehind}
use Rattle.tree_model.specs.Whole.{IsWholeTree, below_all, greatest}
use Rattle.tree_model.specs.Laws.{Keeps, chains_of, leaf_rows, pages_beside, MayHave, HasLeaf, ReplacesLeaf, RowsChange, LeafReplaced}
use Rattle.page_list.proofs.ChainLemmas.{times-append, among-front, among-back, among-here, among-cons}
use Rattle.tree_model.proofs.StayLemmas.{cells_stay, tree_behind_stays}

differs : (a b : ℕ) → nat_eq a b ≡ false → a ≢ b
differs a b e same = grind (arith, nat_tests, e, same)

-- whether a page is the one whose leaf is replaced
by_page : {P : Type 0} (page at : ℕ) → (page ≡ at → nat_eq page at ≡ true → P) → (page ≢ at → nat_eq page at ≡ false → P) → P
by_page {P} page at same other = by (nat_eq page at) refl
  where
    by : (t : Bool) → nat_eq page at ≡ t → P
    by true e = same (eqb-true page at e) e
    by false e = other (differs page at e) e

-- the leaf at a page, and one at another
leaf_there : (page at : ℕ) (rows old : List Row) → nat_eq page at ≡ true → with_leaf at rows (Leaf page old) ≡ Leaf at rows
leaf_there page at rows old e = ap (λ (t : Bool). if t then Leaf at rows else Leaf page old) e

leaf_other : (page at : ℕ) (rows old : List Row) → nat_eq page at ≡ false → with_leaf at rows (Leaf page old) ≡ Leaf page old
leaf_other page at rows old e = ap (λ (t : Bool). if t then Leaf at rows else Leaf page old) e

pub same_root : (at : ℕ) (rows : List Row) (tree : Tree) → root_of (with_leaf at rows tree) ≡ root_of tree
same_root at rows (Leaf page old) = by_page page at
    (λ same e. ap root_of (leaf_there page at rows old e) ∙ sym same)
    (λ other e. ap root_of (leaf_other page at rows old e))
same_root at rows (Child child key more) = same_root at rows more
same_root at rows (Right page child) = refl

-- the pages hold the new tree
beside_there : (page at : ℕ) (old : List Row) → nat_eq page at ≡ false → pages_beside at (Leaf page old) ≡ page ∷ chains_of old
beside_there page at old e = ap (λ (t : Bool). if t then [] else page ∷ chains_of old) e

holds_new : (old new : Pages) (at : ℕ) (rows : List Row) (front : List InnerCell) (tree : Tree) (kept : ℕ → Type 0) → Keeps old new kept → ((n : ℕ) → Among (pages_beside at tree) n → kept n)
    → HasCells new at (LeafPage (map (λ row. row.cell) rows)) → AllByRecursion (HasRow new) rows → HoldsBehind old front tree → HoldsBehind new front (with_leaf at rows tree)
holds_new old new at rows front (Leaf page was) kept keeps beside cells each holds = by_page page at
    (λ same e. let P : Tree → Type 0 = λ t. HoldsBehind new front t in subst P (sym (leaf_there page at rows was e)) (holds.0, cells, each))
    (λ other e.
    let P : Tree → Type 0 = λ t. HoldsBehind new front t in
    let Q : List ℕ → Type 0 = λ l. (n : ℕ) → Among l n → kept n in
    subst P (sym (leaf_other page at rows was e)) (tree_behind_stays old new kept front (Leaf page was) keeps (subst Q (beside_there page at was e) beside) holds))
holds_new old new at rows front (Child child key more) kept keeps beside cells each holds =
    let P : ℕ → Type 0 = λ root. HoldsBehind new (front ++ record { child = root; rowid = key } ∷ []) (with_leaf at rows more) in (
      holds_new old new at rows [] child kept keeps (λ n some. beside n (among-front n (pages_beside at child) _ some)) cells each holds.0,
      subst P (sym (same_root at rows child)) (holds_new old new at rows _ more kept keeps (λ n some. beside n (among-back n (pages_beside at child) _ some)) cells each holds.1),
    )
holds_new old new at rows front (Right page child) kept keeps beside cells each holds =
    let P : ℕ → Type 0 = λ root. HasCells new page (InteriorPage front root) in (
      subst P (sym (same_root at rows child)) (cells_stay old new kept page _ keeps (beside page (among-here page _)) holds.0),
      holds_new old new at rows [] child kept keeps (λ n some. beside n (among-cons n page _ some)) cells each holds.1,
    )

-- order, depth and fill
ordered_new : (at : ℕ) (rows : List Row) (low high : ℤ) (tree : Tree) → MayHave at rows low high tree → IsOrdered low high tree → IsOrdered low high (with_leaf at rows tree)
ordered_new at rows low high (Leaf page old) may ordered = by_page page at
    (λ same e. let P : Tree → Type 0 = λ t. IsOrdered low high t in subst P (sym (leaf_there page at rows old e)) (may same))
    (λ other e. let P : Tree → Type 0 = λ t. IsOrdered low high t in subst P (sym (leaf_other page at rows old e)) ordered)
ordered_new at rows low high (Child child key more) may ordered = (ordered.0, ordered_new at rows low key child may.0 ordered.1, ordered_new at rows key high more may.1 ordered.2)
ordered_new at rows low high (Right page child) may ordered = ordered_new at rows low high child may ordered

depth_new : (at : ℕ) (rows : List Row) (depth : ℕ) (tree : Tree) → HasDepth depth tree → HasDepth depth (with_leaf at rows tree)
depth_new at rows depth (Leaf page old) deep = by_page page at
    (λ same e. let P : Tree → Type 0 = λ t. HasDepth depth t in subst P (sym (leaf_there page at rows old e)) deep)
    (λ other e. let P : Tree → Type 0 = λ t. HasDepth depth t in subst P (sym (leaf_other page at rows old e)) deep)
depth_new at rows zero (Child child key more) deep = deep
depth_new at rows (suc depth) (Child child key more) deep = (depth_new at rows depth child deep.0, depth_new at rows (suc depth) more deep.1)
depth_new at rows zero (Right page child) deep = deep
depth_new at rows (suc depth) (Right page child) deep = depth_new at rows depth child deep

filled_new : (at : ℕ) (rows : List Row) (cells : ℕ) (tree : Tree) → 1 ≤ length rows → IsFilled cells tree → IsFilled cells (with_leaf at rows tree)
filled_new at rows cells (Leaf page old) some filled = by_page page at
    (λ same e. let P : Tree → Type 0 = λ t. IsFilled cells t in subst P (sym (leaf_there page at rows old e)) some)
    (λ other e. let P : Tree → Type 0 = λ t. IsFilled cells t in subst P (sym (leaf_other page at rows old e)) filled)
filled_new at rows cells (Child child key more) some filled = (filled_new at rows 0 child some filled.0, filled_new at rows (cells + 1) more some filled.1)
filled_new at rows cells (Right page child) some filled = (filled.0, filled_new at rows 0 child some filled.1)

no_leaf : (child more : Tree) (key : ℤ) (at : ℕ) (rows : List Row) → ¬ (Child child key more ≡ Leaf at rows)
no_leaf child more key at rows e = cc

no_leaf_right : (child : Tree) (page at : ℕ) (rows : List Row) → ¬ (Right page child ≡ Leaf at rows)
no_leaf_right child page at rows e = cc

filled_root_new : (at : ℕ) (rows : List Row) (tree : Tree) → (rows ≡ [] → tree ≡ Leaf at (leaf_rows at tree)) → IsFilledRoot tree → IsFilledRoot (with_leaf at rows tree)
filled_root_new at rows (Leaf page old) some filled = by_page page at
    (λ same e. let P : Tree → Type 0 = λ t. IsFilledRoot t in subst P (sym (leaf_there page at rows old e)) tt)
    (λ other e. let P : Tree → Type 0 = λ t. IsFilledRoot t in subst P (sym (leaf_other page at rows old e)) tt)
filled_root_new at [] (Child child key more) some filled = absurd (no_leaf _ _ _ _ _ (some refl))
filled_root_new at (row ∷ rows) (Child child key more) some filled =
    (filled_new at (row ∷ rows) 0 child (omega arith) filled.0, filled_new at (row ∷ rows) 1 more (omega arith) filled.1)
filled_root_new at [] (Right page child) some filled = absurd (no_leaf_right _ _ _ _ (some refl))
filled_root_new at (row ∷ rows) (Right page child) some filled = (filled.0, filled_new at (row ∷ rows) 0 child (omega arith) filled.1)

pub whole_new : (old new : Pages) (root : ℕ) (tree : Tree) (at : ℕ) (rows : List Row) → IsWholeTree old root tree → ReplacesLeaf old new tree at rows → IsWholeTree new root (with_leaf at rows tree)
whole_new old new root tree at rows whole replaces = record {
  rooted = same_root at rows tree ∙ whole.rooted;
  held = holds_new old new at rows [] tree _ replaces.beside (λ n some. some) replaces.cells replaces.each_row whole.held;
  ordered = ordered_new at rows below_all greatest tree replaces.within whole.ordered;
  depth = whole.depth;
  level = depth_new at rows whole.depth tree whole.level;
  shallow = whole.shallow;
  filled = filled_root_new at rows tree replaces.some whole.filled;
}

-- a tree without the leaf does not change
pub not_named : (at : ℕ) (rows : List Row) (tree : Tree) → ¬ (Among (pages_of tree) at) → (with_leaf at rows tree ≡ tree) × (leaf_rows at tree ≡ [])
not_named at rows (Leaf page old) none = by_page page at
    (λ same e. let P : ℕ → Type 0 = λ n. Among (page ∷ chains_of old) n in absurd (none (subst P same (among-here page _))))
    (λ other e. (leaf_other page at rows old e, ap (λ (t : Bool). if t then old else []) e))
not_named at rows (Child child key more) none =
    let a = not_named at rows child (λ some. none (among-front at (pages_of child) _ some)) in
    let b = not_named at rows more (λ some. none (among-back at (pages_of child) _ some)) in
    (ap₂ (λ (c : Tree) (m : Tree). Child c key m) a.0 b.0, ap₂ (λ (x : List Row) (y : List Row). x ++ y) a.1 b.1)
not_named at rows (Right page child) none =
    let a = not_named at rows child (λ some. none (among-cons at page _ some)) in
    (ap (λ (t : Tree). Right page t) a.0, a.1)

pub leaf_named : (at : ℕ) (tree : Tree) → HasLeaf at tree → Among (pages_of tree) at
leaf_named at (Leaf page rows) has = let P : ℕ → Type 0 = λ n. Among (page ∷ chains_of rows) n in subst P has (among-here page _)
leaf_named at (Child child key more) (inl has) = among-front at (pages_of child) _ (leaf_named at child has)
leaf_named at (Child child key more) (inr has) = among-back at (pages_of child) _ (leaf_named at more has)
leaf_named at (Right page child) has = among-cons at page _ (leaf_named at child has)

-- in which half of an interior page the leaf is
pub record Halves (at : ℕ) (child more : Tree) : Type 0 where
  pub child_once : AllDifferent (pages_of child)
  pub more_once : AllDifferent (pages_of more)
  pub not_in_more : HasLeaf at child → ¬ (Among (pages_of more) at)
  pub not_in_child : HasLeaf at more → ¬ (Among (pages_of child) at)

halves : (at : ℕ) (child more : Tree) → AllDifferent (pages_of child ++ pages_of more) → Halves at child more
halves at child more different = record {
  child_once = record { once = λ n. omega (arith, different.once n, times-append n (pages_of child) (pages_of more)) };
  more_once = record { once = λ n. omega (arith, different.once n, times-append n (pages_of child) (pages_of more)) };
  not_in_more = λ has some. omega (arith, some, leaf_named at child has, different.once at, times-append at (pages_of child) (pages_of more));
  not_in_child = λ has some. omega (arith, some, leaf_named at more has, different.once at, times-append at (pages_of child) (pages_of more));
}

below_right : (page : ℕ) (child : Tree) → AllDifferent (page ∷ pages_of child) → AllDifferent (pages_of child)
below_right page child different = record { once = λ n. omega (arith, different.once n) }

pub rows_change : (at : ℕ) (rows : List Row) (tree : Tree) → AllDifferent (pages_of tree) → HasLeaf at tree → RowsChange tree at rows
rows_change at rows (Leaf page old) different has = by_page page at
    (λ same e. record {
      before = [];
      behind = [];
      old_rows = sym (append-nil old) ∙ ap (λ (t : Bool). (if t then old else []) ++ []) (sym e);
      new_rows = ap rows_of (leaf_there page at rows old e) ∙ sym (append-nil rows);
    })
    (λ other e. absurd (other has))
rows_change at rows (Child child key more) different (inl has) =
    let half = halves at child more different in
    let inner = rows_change at rows child half.child_once has in
    let rest = not_named at rows more (half.not_in_more has) in
    record {
      before = inner.before;
      behind = inner.behind ++ rows_of more;
      old_rows = ap (λ (l : List Row). l ++ rows_of more) inner.old_rows ∙ append_assoc inner.before _ _
          ∙ ap (λ (l : List Row). inner.before ++ l) (append_assoc (leaf_rows at child) inner.behind (rows_of more)
          ∙ ap (λ (l : List Row). l ++ (inner.behind ++ rows_of more)) (sym (append-nil (leaf_rows at child)) ∙ ap (λ (l : List Row). leaf_rows at child ++ l) (sym rest.1)));
      new_rows = ap₂ (λ (a : List Row) (t : Tree). a ++ rows_of t) inner.new_rows rest.0 ∙ append_assoc inner.before _ _ ∙ ap (λ (l : List Row). inner.before ++ l) (append_assoc rows inner.behind (rows_of more));
    }
rows_change at rows (Child child key more) different (inr has) =
    let half = halves at child more different in
    let inner = rows_change at rows more half.more_once has in
    let rest = not_named at rows child (half.not_in_child has) in
    record {
      before = rows_of child ++ inner.before;
      behind = inner.behind;
      old_rows = ap (λ (l : List Row). rows_of child ++ l) inner.old_rows ∙ sym (append_assoc (rows_of child) inner.before _)
          ∙ ap (λ (l : List Row). (rows_of child ++ inner.before) ++ ((l ++ leaf_rows at more) ++ inner.behind)) (sym rest.1);
      new_rows = ap₂ (λ (t : Tree) (a : List Row). rows_of t ++ a) rest.0 inner.new_rows ∙ sym (append_assoc (rows_of child) inner.before _);
    }
rows_change at rows (Right page child) different has =
    let inner = rows_change at rows child (below_right page child different) has in
    record { before = inner.before; behind = inner.behind; old_rows = inner.old_rows; new_rows = inner.new_rows }

pub chains_append : (n : ℕ) (xs ys : List Row) → times n (chains_of (xs ++ ys)) ≡ times n (chains_of xs) + times n (chains_of ys)
chains_append n [] ys = omega arith
chains_append n (x ∷ xs) ys = omega (arith, chains_append n xs ys, times-append n x.chain (chains_of xs), times-append n x.chain (chains_of (xs ++ ys)))

pub pages_change : (at : ℕ) (rows : List Row) (tree : Tree) → AllDifferent (pages_of tree) → HasLeaf at tree → (n : ℕ) →
    times n (pages_of (with_leaf at rows tree)) + times n (chains_of (leaf_rows at tree)) ≡ times n (pages_of tree) + times n (chains_of rows)
pages_change at rows (Leaf page old) different has n = by_page page at
    (λ same e.
    let a = ap (λ (t : Tree). times n (pages_of t)) (leaf_there page at rows old e) in
    let b = ap (λ (t : Bool). times n (chains_of (if t then old else []))) e in
    let c = ap (λ p. times n (p ∷ chains_of old)) same in
    omega (arith, a, b, c))
    (λ other e. absurd (other has))
pages_change at rows (Child child key more) different (inl has) n =
    let half = halves at child more different in
    let inner = pages_change at rows child half.child_once has n in
    let rest = not_named at rows more (half.not_in_more has) in
    let a = times-append n (pages_of (with_leaf at rows child)) (pages_of (with_leaf at rows more)) in
    let b = chains_append n (leaf_rows at child) (leaf_rows at more) in
    let c = times-append n (pages_of child) (pages_of more) in
    let d = ap (λ (t : Tree). times n (pages_of t)) rest.0 in
    let e = ap (λ (l : List Row). times n (chains_of l)) rest.1 in
    omega (arith, inner, a, b, c, d, e)
pages_change at rows (Child child key more) different (inr has) n =
    let half = halves at child more different in
    let inner = pages_change at rows more half.more_once has n in
    let rest = not_named at rows child (half.not_in_child has) in
    let a = times-append n (pages_of (with_leaf at rows child)) (pages_of (with_leaf at rows more)) in
    let b = chains_append n (leaf_rows at child) (leaf_rows at more) in
    let c = times-append n (pages_of child) (pages_of more) in
    let d = ap (λ (t : Tree). times n (pages_of t)) rest.0 in
    let e = ap (λ (l : List Row). times n (chains_of l)) rest.1 in
    omega (arith, inner, a, b, c, d, e)
pages_change at rows (Right page child) different has n =
    let inner = pages_change at rows child (below_right page child different) has n in
    omega (arith, inner)

pub leaf_replaced : LeafReplaced
leaf_replaced old new root tree at rows whole different replaces =
    (whole_new old new root tree at rows whole replaces, rows_change at rows tree different replaces.has_leaf, record { count = pages_change at rows tree different replaces.has_leaf })
