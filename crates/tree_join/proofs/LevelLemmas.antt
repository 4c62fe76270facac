-- The children of an interior page, and its cells without one of them.
use Rattle.std.proofs.Common.{◌≡◌, ℕ, zero, suc, ◌≤◌, ◌<◌, nat_lt, if◌then◌else◌, Bool, true, false, Some, List, [], ◌∷◌, ◌++◌, length, take, drop, slice_index_or, refl, sym, ap, ap₂, subst, ◌∙◌, arith, length-append, lt-ltb, le-ltb, add-one}
use Rattle.std.proofs.lemmas.List.{take-append-drop}
use Rattle.tree_page.specs.declared.cell.InnerCell.{InnerCell}
use Rattle.tree_page.specs.declared.cell.PageCells.TheVariants.{Interior}
use Rattle.tree_page.specs.Written.{Fits}
use Rattle.tree_page.specs.Laws.{FitsWithout}
use Rattle.tree_model.specs.declared.level.Level.{Level}
use Rattle.tree_model.specs.Walk.{all_children}
use Rattle.tree_shrink.specs.Rest.{no_cell, cells_left}
use Rattle.tree_join.specs.declared.level.Inner.{Inner}
use Rattle.tree_join.specs.declared.level.Left.{Left}
use Rattle.tree_join.specs.declared.level.Left.TheVariants.{Parts, Over, Nothing}
use Rattle.tree_join.specs.Join.{IsAllLeft, IsLeftOut}
use Rattle.tree_join.specs.Steps.{IsWithout}
use Rattle.tree_join.proofs.RiseLemmas.{head_at}

-- the child at a place

pub child_before : (cells : List InnerCell) (right at : ℕ) (d : InnerCell) → at < length cells → (slice_index_or cells at d).child ≡ slice_index_or (all_children cells right) at 0
child_before [] right at d within = absurd (omega (arith, within))
child_before (c ∷ more) right zero d within = refl
child_before (c ∷ more) right (suc at) d within = child_before more right at d (omega (arith, within))

pub child_last : (cells : List InnerCell) (right at : ℕ) → at ≡ length cells → right ≡ slice_index_or (all_children cells right) at 0
child_last [] right zero is = refl
child_last [] right (suc at) is = absurd (omega (arith, is))
child_last (c ∷ more) right zero is = absurd (omega (arith, is))
child_last (c ∷ more) right (suc at) is = child_last more right at (omega (arith, is))

-- the cells without a child

chosen : {A : Type 0} (test b : Bool) (x y : A) → test ≡ b → (if test then x else y) ≡ (if b then x else y)
chosen test b x y h = ap (λ (t : Bool). if t then x else y) h

pub left_before : (at right : ℕ) (cells : List InnerCell) → at < length cells → cells_left at cells right ≡ Some (take at cells ++ drop (suc at) cells, right)
left_before at right [] within = absurd (omega (arith, within))
left_before at right (cell ∷ more) within =
    chosen (nat_lt at (length (cell ∷ more))) true (Some (take at (cell ∷ more) ++ drop (suc at) (cell ∷ more), right)) (Some (take (length more) (cell ∷ more), (slice_index_or (cell ∷ more) (length more) no_cell).child))
    (lt-ltb at (length (cell ∷ more)) within)

take_front : (xs : List InnerCell) (x : InnerCell) → take (length xs) (xs ++ x ∷ []) ≡ xs
take_front [] x = refl
take_front (y ∷ ys) x = ap (λ (l : List InnerCell). y ∷ l) (take_front ys x)

last_of : (xs : List InnerCell) (x d : InnerCell) → slice_index_or (xs ++ x ∷ []) (length xs) d ≡ x
last_of [] x d = refl
last_of (y ∷ ys) x d = last_of ys x d

behind_all : (at right : ℕ) (cells : List InnerCell) (n : ℕ) → length cells ≡ suc n → length cells ≤ at →
    cells_left at cells right ≡ Some (take n cells, (slice_index_or cells n no_cell).child)
behind_all at right [] n long past = absurd (omega (arith, long))
behind_all at right (cell ∷ more) n long past =
    let e : length more ≡ n = omega (arith, long) in
    chosen (nat_lt at (length (cell ∷ more))) false (Some (take at (cell ∷ more) ++ drop (suc at) (cell ∷ more), right)) (Some (take (length more) (cell ∷ more), (slice_index_or (cell ∷ more) (length more) no_cell).child))
    (le-ltb at (length (cell ∷ more)) past)
    ∙ ap (λ k. Some (take k (cell ∷ more), (slice_index_or (cell ∷ more) k no_cell).child)) e

pub left_last : (at right : ℕ) (cells xs : List InnerCell) (x : InnerCell) → cells ≡ xs ++ x ∷ [] → length cells ≤ at → cells_left at cells right ≡ Some (xs, x.child)
left_last at right cells xs x is past =
    let long : length cells ≡ suc (length xs) = omega (arith, ap (λ (l : List InnerCell). length l) is, length-append xs (x ∷ [])) in
    behind_all at right cells (length xs) long past
    ∙ ap₂ (λ (l : List InnerCell) (k : ℕ). Some (l, k)) (ap (take (length xs)) is ∙ take_front xs x) (ap (λ (l : List InnerCell). (slice_index_or l (length xs) no_cell).child) is ∙ ap (λ (c : InnerCell). c.child) (last_of xs x no_cell))

pub without_before : (cells : List InnerCell) (right at : ℕ) (page : Inner) → at < length cells → page.cells ≡ take at cells ++ drop (suc at) cells → page.right ≡ right → IsWithout cells right at page
without_before cells right at page within are top = record {
  front = take at cells;
  cell = slice_index_or cells at no_cell;
  back = drop (suc at) cells;
  were = sym (take-append-drop at cells)
      ∙ ap (λ (l : List InnerCell). take at cells ++ l) (head_at at cells no_cell within ∙ ap (λ n. slice_index_or cells at no_cell ∷ drop n cells) (add-one at));
  are = are;
  left = left_before at right cells within ∙ ap₂ (λ (l : List InnerCell) (k : ℕ). Some (l, k)) (sym are) (sym top);
}

append_none : (xs : List InnerCell) → xs ≡ xs ++ []
append_none [] = refl
append_none (x ∷ xs) = ap (λ (l : List InnerCell). x ∷ l) (append_none xs)

pub without_last : (cells xs : List InnerCell) (x : InnerCell) (right at : ℕ) (page : Inner) → cells ≡ xs ++ x ∷ [] → length cells ≤ at → page.cells ≡ xs → page.right ≡ x.child → IsWithout cells right at page
without_last cells xs x right at page were past are top = record {
  front = xs;
  cell = x;
  back = [];
  were = were;
  are = are ∙ append_none xs;
  left = left_last at right cells xs x were past ∙ ap₂ (λ (l : List InnerCell) (k : ℕ). Some (l, k)) (sym are) (sym top);
}

pub without_fits : FitsWithout → (cells : List InnerCell) (right at : ℕ) (page : Inner) (number usable : ℕ) → IsWithout cells right at page → Fits (Interior cells right) number usable → Fits (Interior page.cells page.right) number usable
without_fits law cells right at page number usable is fits =
    let P : List InnerCell → Type 0 = λ l. Fits (Interior l right) number usable in
    let Q : List InnerCell → Type 0 = λ l. Fits (Interior l page.right) number usable in
    subst Q (sym is.are) (law.of_interior is.front is.back is.cell right page.right number usable (subst P is.were fits))

pub left_out : (usable : ℕ) (level : Level) (page : Inner) (left : Left) → IsWithout level.cells level.right level.at page → 1 ≤ length page.cells → Fits (Interior page.cells page.right) level.number usable →
    IsAllLeft (Interior page.cells page.right) left → IsLeftOut usable level left
left_out usable level page Nothing is some fits all = absurd all
left_out usable level page (Over child) is some fits all = absurd all
left_out usable level page (Parts sheets) is some fits all = (page.cells, page.right, is.left, some, record { none = all.0; all = all.1; fits = fits })
