-- Runs that become shorter, and two runs that become one.
use Rattle.std.proofs.Common.{◌≡◌, ℕ, suc, ◌+◌, ◌<◌, ℤ, ◌≤ℤ◌, List, [], ◌∷◌, ◌++◌, length, take, drop, slice_index_or, nat_lt, if◌then◌else◌, Option, Some, None, IfSome, refl, sym, ap, ap₂, subst, ◌∙◌, arith, append_assoc, append-nil, length-append, false, le-ltb, lt-ltb}
use Rattle.std.proofs.lemmas.List.{map-append, length-map}
use Rattle.std.proofs.Math.Seq.{take-append_seam, drop-append-add}
use Rattle.std.specs.Int.Signed.{≤ℤ_refl}
use Rattle.std.specs.List.{flat_map}
use Rattle.page_list.specs.Pages.{Pages, times, Among}
use Rattle.page_list.proofs.TimesLemmas.{times-append, among-front, among-back}
use Rattle.tree_page.specs.declared.cell.InnerCell.{InnerCell}
use Rattle.tree_model.specs.Tree.{Row, Tree, Leaf, Child, Right, root_of, rows_of, pages_of, IsOrdered}
use Rattle.tree_model.proofs.IntLemmas.{le_lt_ℤ, le_trans_ℤ, lt_le_ℤ}
use Rattle.tree_model.proofs.PathLemmas.{all_weaker}
use Rattle.tree_run.specs.Node.{Piece, cell_of, cells_of, rows_in, pages_in, last_key}
use Rattle.tree_run.specs.Run.{IsChild, AreChildren, Run, IsRun, run_rows, run_pages, one, Behind, Nothing, Next, within, behind_rows, behind_pages}
use Rattle.tree_run.proofs.RunLemmas.{strict, run_within, children_stay}
use Rattle.tree_level.specs.Level.{Has}
use Rattle.tree_level.proofs.StepLemmas.{behind_stays}
use Rattle.tree_shrink.specs.Rest.{without_last, left_of, no_cell, cells_left}
use Rattle.tree_shrink.specs.Laws.{RunWidens, RunReplaced, ChildLeftOut, Joined}

pub run_replaced : RunReplaced
run_replaced old new low high depth before run run' behind is keeps is' =
    let parts = (run_within.parts old low high depth before run behind).0 is in
    let kept : ℕ → Type 0 = Among (pages_in before ++ behind_pages behind) in
    (run_within.parts new low high depth before run' behind).1 (
      children_stay old new kept low depth before keeps (λ n some. among-front n (pages_in before) (behind_pages behind) some) parts.0,
      is',
      behind_stays old new kept high depth behind keeps (λ n some. among-back n (pages_in before) (behind_pages behind) some) parts.2,
    )

pub joined : Joined
joined = record {
  is = λ pages low key high depth run run' is is'.
      (run_within.parts pages low high depth run.front (one run.last) (Next key run')).1 (is.children, record { children = tt; last_child = is.last_child }, is');
  rows = λ key run run'.
      run_within.rows run.front (one run.last) (Next key run') ∙ sym (append_assoc (rows_in run.front) (rows_of run.last) (run_rows run'));
  named = λ n key run run'. omega (arith, run_within.named n run.front (one run.last) (Next key run'), times-append n (pages_in run.front) (pages_of run.last));
}

-- wider bounds

ordered_widens : (low high low' high' : ℤ) (tree : Tree) → low' ≤ℤ low → high ≤ℤ high' → IsOrdered low high tree → IsOrdered low' high' tree
ordered_widens low high low' high' (Leaf page rows) a b is = all_weaker _ _ (λ row w. (le_lt_ℤ _ _ _ a w.0, le_trans_ℤ _ _ _ w.1 b)) rows is
ordered_widens low high low' high' (Child child key more) a b is = (
  (le_lt_ℤ low' low key a is.0.0, le_trans_ℤ key high high' is.0.1 b),
  ordered_widens low key low' key child a (≤ℤ_refl key) is.1,
  ordered_widens key high key high' more (≤ℤ_refl key) b is.2,
)
ordered_widens low high low' high' (Right page child) a b is = ordered_widens low high low' high' child a b is

child_widens : (pages : Pages) (low high low' high' : ℤ) (depth : ℕ) (tree : Tree) → low' ≤ℤ low → high ≤ℤ high' → IsChild pages low high depth tree → IsChild pages low' high' depth tree
child_widens pages low high low' high' depth tree a b is = record {
  held = is.held;
  ordered = ordered_widens low high low' high' tree a b is.ordered;
  level = is.level;
  filled = is.filled;
}

-- only the first child stands at the lower bound, and only the last at the upper one
widens : (pages : Pages) (low high low' high' : ℤ) (depth : ℕ) (front : List Piece) (last : Tree) → low' ≤ℤ low → high ≤ℤ high' → AreChildren pages low depth front
    → IsChild pages (last_key low front) high depth last → IsRun pages low' high' depth (record { front = front; last = last })
widens pages low high low' high' depth [] last a b are is = record { children = tt; last_child = child_widens pages low high low' high' depth last a b is }
widens pages low high low' high' depth (p ∷ more) last a b are is =
    let key : ℤ = last_key p.key more in
    record {
      children = (child_widens pages low p.key low' p.key depth p.tree a (≤ℤ_refl p.key) are.0, are.1);
      last_child = child_widens pages key high key high' depth last (≤ℤ_refl key) b is;
    }

pub run_widens : RunWidens
run_widens pages low high low' high' depth run a b is = widens pages low high low' high' depth run.front run.last a b is.children is.last_child

-- a child is left out, and the others are a run

without_last_is : (pages : Pages) (low high : ℤ) (depth : ℕ) (p : Piece) (more : List Piece) → AreChildren pages low depth (p ∷ more) → last_key p.key more ≤ℤ high
    → IsRun pages low high depth (without_last p more)
without_last_is pages low high depth p [] are less = record { children = tt; last_child = child_widens pages low p.key low high depth p.tree (≤ℤ_refl low) less are.0 }
without_last_is pages low high depth p (q ∷ more) are less =
    let rest = without_last_is pages p.key high depth q more are.1 less in
    record { children = (are.0, rest.children); last_child = rest.last_child }

left_is : (pages : Pages) (low high : ℤ) (depth : ℕ) (before : List Piece) (child : Tree) (behind : Behind) → IsRun pages low high depth (within before (one child) behind)
    → IfSome (left_of before behind) (IsRun pages low high depth)
left_is pages low high depth before child (Next key rest) is =
    let from : ℤ = last_key low before in
    let parts = (run_within.parts pages low high depth before (one child) (Next key rest)).0 is in
    let less = lt_le_ℤ from key (strict pages from key depth (one child) parts.1) in
    (run_within.parts pages low high depth before rest Nothing).1 (parts.0, run_widens pages key high from high depth rest less (≤ℤ_refl high) parts.2, tt)
left_is pages low high depth [] child Nothing is = tt
left_is pages low high depth (p ∷ more) child Nothing is =
    let from : ℤ = last_key p.key more in
    let parts = (run_within.parts pages low high depth (p ∷ more) (one child) Nothing).0 is in
    without_last_is pages low high depth p more parts.0 (lt_le_ℤ from high (strict pages from high depth (one child) parts.1))

-- it has what the others had

without_last_has : {A : Type 0} (f : Tree → List A) (p : Piece) (more : List Piece)
    → flat_map (λ piece. f piece.tree) (without_last p more).front ++ f (without_last p more).last ≡ flat_map (λ piece. f piece.tree) (p ∷ more)
without_last_has f p [] = sym (append-nil (f p.tree))
without_last_has f p (q ∷ more) =
    append_assoc (f p.tree) (flat_map (λ piece. f piece.tree) (without_last q more).front) (f (without_last q more).last) ∙ ap (λ l. f p.tree ++ l) (without_last_has f q more)

left_rows : (before : List Piece) (behind : Behind) → IfSome (left_of before behind) (λ run. run_rows run ≡ rows_in before ++ behind_rows behind)
left_rows before (Next key rest) = run_within.rows before rest Nothing ∙ ap (λ (l : List Row). rows_in before ++ l) (append-nil (run_rows rest))
left_rows [] Nothing = tt
left_rows (p ∷ more) Nothing = without_last_has rows_of p more ∙ sym (append-nil (rows_in (p ∷ more)))

left_named : (n : ℕ) (before : List Piece) (behind : Behind) → IfSome (left_of before behind) (λ run. times n (run_pages run) ≡ times n (pages_in before) + times n (behind_pages behind))
left_named n before (Next key rest) = omega (arith, run_within.named n before rest Nothing)
left_named n [] Nothing = tt
left_named n (p ∷ more) Nothing = omega (arith, ap (times n) (without_last_has pages_of p more))

left_alone : (before : List Piece) (behind : Behind) → left_of before behind ≡ None → (before ≡ []) × (behind_rows behind ≡ []) × (behind_pages behind ≡ [])
left_alone before (Next key rest) none = absurd (cc)
left_alone [] Nothing none = (refl, refl, refl)
left_alone (p ∷ more) Nothing none = absurd (cc)

-- and the cells of a page without one are its cells

cell_goes : (at right : ℕ) (cells : List InnerCell) → at < length cells → cells_left at cells right ≡ Some (take at cells ++ drop (suc at) cells, right)
cell_goes at right [] less = absurd (omega arith)
cell_goes at right (cell ∷ more) less =
    let some : Option (List InnerCell × ℕ) = Some (take at (cell ∷ more) ++ drop (suc at) (cell ∷ more), right) in
    let last : Option (List InnerCell × ℕ) = Some (take (length more) (cell ∷ more), (slice_index_or (cell ∷ more) (length more) no_cell).child) in
    ap (λ b. if b then some else last) (lt-ltb at (length (cell ∷ more)) less)

right_goes : (at right : ℕ) (cell : InnerCell) (more : List InnerCell) → length (cell ∷ more) ≡ at
    → cells_left at (cell ∷ more) right ≡ Some (take (length more) (cell ∷ more), (slice_index_or (cell ∷ more) (length more) no_cell).child)
right_goes at right cell more is =
    let some : Option (List InnerCell × ℕ) = Some (take at (cell ∷ more) ++ drop (suc at) (cell ∷ more), right) in
    let last : Option (List InnerCell × ℕ) = Some (take (length more) (cell ∷ more), (slice_index_or (cell ∷ more) (length more) no_cell).child) in
    let test : nat_lt at (length (cell ∷ more)) ≡ false = le-ltb at (length (cell ∷ more)) (omega (arith, is)) in
    ap (λ b. if b then some else last) test

pub seam : (xs ys : List InnerCell) (cell : InnerCell) (at : ℕ) → at ≡ length xs → (take at (xs ++ cell ∷ ys) ≡ xs) × (drop (suc at) (xs ++ cell ∷ ys) ≡ ys)
seam xs ys cell at is =
    let all : List InnerCell = xs ++ cell ∷ ys in (
      ap (λ k. take k all) is ∙ take-append_seam xs (cell ∷ ys),
      ap (λ k. drop k all) (let e : suc at ≡ length xs + 1 = omega arith in e) ∙ drop-append-add xs (cell ∷ ys) 1,
    )

between : (xs ys : List InnerCell) (cell : InnerCell) (at right : ℕ) → at ≡ length xs → cells_left at (xs ++ cell ∷ ys) right ≡ Some (xs ++ ys, right)
between xs ys cell at right is =
    let cut = seam xs ys cell at is in
    cell_goes at right (xs ++ cell ∷ ys) (omega (arith, is, length-append xs (cell ∷ ys))) ∙ ap₂ (λ (a b : List InnerCell). Some (a ++ b, right)) cut.0 cut.1

last_cells : (p : Piece) (more : List Piece) → (take (length (cells_of more)) (cells_of (p ∷ more)) ≡ cells_of (without_last p more).front)
    × ((slice_index_or (cells_of (p ∷ more)) (length (cells_of more)) no_cell).child ≡ root_of (without_last p more).last)
last_cells p [] = (refl, refl)
last_cells p (q ∷ more) = let rest = last_cells q more in (ap (λ (l : List InnerCell). cell_of p ∷ l) rest.0, rest.1)

abbrev LeftAs : List Piece → Behind → ℕ → List InnerCell → ℕ → Type 0
LeftAs before behind at cells right = (left_of before behind ≡ None → cells_left at cells right ≡ None)
    × IfSome (left_of before behind) (λ run. cells_left at cells right ≡ Some (cells_of run.front, root_of run.last))

left_as : (before : List Piece) (child : Tree) (behind : Behind)
    → LeftAs before behind (length before) (cells_of (within before (one child) behind).front) (root_of (within before (one child) behind).last)
left_as before child (Next key rest) =
    let piece : Piece = record { tree = child; key = key } in
    let right : ℕ = root_of rest.last in (
      λ none. absurd (cc),
      ap (λ (l : List InnerCell). cells_left (length before) l right) (map-append cell_of before (piece ∷ rest.front))
          ∙ between (cells_of before) (cells_of rest.front) (cell_of piece) (length before) right (sym (length-map before cell_of))
          ∙ ap (λ (l : List InnerCell). Some (l, right)) (sym (map-append cell_of before rest.front)),
    )
left_as [] child Nothing = (λ none. refl, tt)
left_as (p ∷ more) child Nothing =
    let parts = last_cells p more in (
      λ none. absurd (cc),
      ap (λ (l : List Piece). cells_left (length (p ∷ more)) (cells_of l) (root_of child)) (append-nil (p ∷ more))
          ∙ right_goes (length (p ∷ more)) (root_of child) (cell_of p) (cells_of more) (length-map (p ∷ more) cell_of)
          ∙ ap₂ (λ (a : List InnerCell) (b : ℕ). Some (a, b)) parts.0 parts.1,
    )

left_cells : (before : List Piece) (child : Tree) (behind : Behind) (cells : List InnerCell) (right at : ℕ) → Has cells right (within before (one child) behind) → at ≡ length before
    → LeftAs before behind at cells right
left_cells before child behind cells right at has is =
    let run : Run = within before (one child) behind in
    let P : ℕ → Type 0 = λ k. LeftAs before behind k cells right in
    let Q : List InnerCell → Type 0 = λ l. LeftAs before behind (length before) l right in
    let R : ℕ → Type 0 = λ k. LeftAs before behind (length before) (cells_of run.front) k in
    subst P (sym is) (subst Q has.cells_are (subst R has.right_is (left_as before child behind)))

pub child_left_out : ChildLeftOut
child_left_out = record { is = left_is; rows = left_rows; named = left_named; alone = left_alone; cells = left_cells }
