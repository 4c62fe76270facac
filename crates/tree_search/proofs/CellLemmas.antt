-- Searches among the cells of a page.
use Rattle.std.proofs.Common.{◌≡◌, ℕ, suc, ◌+◌, ◌<◌, ◌≤◌, Bool, true, false, ℤ, ◌≤ℤ◌, int_le, if◌then◌else◌, List, [], ◌∷◌, length, drop, get_or, Option, None, Some, MatchOption, refl, sym, ap, subst, ◌∙◌, drop-cons, add-one}
use Rattle.std.specs.List.{slice_get}
use Rattle.std.proofs.lemmas.List.{drop_all}
use Rattle.tree_page.specs.declared.cell.LeafCell.{LeafCell}
use Rattle.tree_page.specs.declared.cell.InnerCell.{InnerCell}
use Rattle.tree_model.specs.Walk.{first_from, child_for, all_children, children_from}
use Rattle.tree_model.proofs.IntLemmas.{is_le}
use Rattle.tree_search.specs.Search.{place_for}

-- what stands from a place on
pub from_place : {A : Type 0} (s : List A) (i : ℕ) (x : A) → i < length s → x ≡ get_or s i x → drop i s ≡ x ∷ drop (i + 1) s
from_place s i x within is =
    drop-cons s i x within ∙ ap (λ (y : _). y ∷ drop (suc i) s) (sym is) ∙ ap (λ (n : ℕ). x ∷ drop n s) (sym (add-one i))

-- a choice by a test whose answer is known
chosen : {A : Type 0} (test : Bool) (x y : A) → test ≡ true → (if test then x else y) ≡ x
chosen test x y h = ap (λ (b : Bool). if b then x else y) h

pub first_found : (key : ℤ) (cells : List LeafCell) (i : ℕ) (cell : LeafCell) → first_from key cells ≡ first_from key (drop i cells) → i < length cells
    → cell ≡ get_or cells i cell → int_le key cell.rowid ≡ true → first_from key cells ≡ Some cell
first_found key cells i cell before within is h =
    before ∙ ap (first_from key) (from_place cells i cell within is) ∙ chosen (int_le key cell.rowid) (Some cell) (first_from key (drop (i + 1) cells)) h

-- the first cell from a key on is not before it
not_before : (key : ℤ) (c cell : LeafCell) (more : Option LeafCell) (test : Bool) → int_le key c.rowid ≡ test → (if test then Some c else more) ≡ Some cell
    → (more ≡ Some cell → key ≤ℤ cell.rowid) → key ≤ℤ cell.rowid
not_before key c cell more true h is rest =
    let same : c ≡ cell = cc in
    let P : LeafCell → Type 0 = λ x. key ≤ℤ x.rowid in
    subst P same (is_le key c.rowid h)
not_before key c cell more false h is rest = rest is

pub first_onward : (key : ℤ) (cells : List LeafCell) (cell : LeafCell) → first_from key cells ≡ Some cell → key ≤ℤ cell.rowid
first_onward key [] cell is = cc
first_onward key (c ∷ more) cell is = not_before key c cell (first_from key more) (int_le key c.rowid) refl is (first_onward key more cell)

-- nothing stands behind the last cell
pub none_left : (key : ℤ) (cells : List LeafCell) (i : ℕ) → first_from key cells ≡ first_from key (drop i cells) → length cells ≤ i → first_from key cells ≡ None
none_left key cells i before past = before ∙ ap (first_from key) (drop_all i cells past)

-- the child at the place of a key
child_is : (key : ℤ) (child : ℕ) (cell : InnerCell) (more : List InnerCell) (right : ℕ) (test : Bool) → int_le key cell.rowid ≡ test
    → (MatchOption (slice_get more (place_for key more)) (child ≡ right) (λ c. child ≡ c.child) → child ≡ child_for key more right)
    → MatchOption (slice_get (cell ∷ more) (if test then 0 else suc (place_for key more))) (child ≡ right) (λ c. child ≡ c.child)
    → child ≡ (if test then cell.child else child_for key more right)
child_is key child cell more right true h below at = at
child_is key child cell more right false h below at = below at

child_found : (key : ℤ) (child : ℕ) (cells : List InnerCell) (right : ℕ) → MatchOption (slice_get cells (place_for key cells)) (child ≡ right) (λ c. child ≡ c.child)
    → child ≡ child_for key cells right
child_found key child [] right at = at
child_found key child (cell ∷ more) right at = child_is key child cell more right (int_le key cell.rowid) refl (child_found key child more right) at

pub child_at_place : (key : ℤ) (child at : ℕ) (seen cells : List InnerCell) (right : ℕ) → seen ≡ cells → at ≡ place_for key cells
    → MatchOption (slice_get seen at) (child ≡ right) (λ c. child ≡ c.child) → child ≡ child_for key cells right
child_at_place key child at seen cells right same is found =
    let P : List InnerCell → Type 0 = λ l. MatchOption (slice_get l at) (child ≡ right) (λ c. child ≡ c.child) in
    let Q : ℕ → Type 0 = λ n. MatchOption (slice_get cells n) (child ≡ right) (λ c. child ≡ c.child) in
    child_found key child cells right (subst Q is (subst P same found))

-- the children from a key on are those of the cells from its place on
picked : (key : ℤ) (cell : InnerCell) (more : List InnerCell) (right : ℕ) (test : Bool) → int_le key cell.rowid ≡ test
    → children_from key more right ≡ all_children (drop (place_for key more) more) right
    → (if test then all_children (cell ∷ more) right else children_from key more right) ≡ all_children (drop (if test then 0 else suc (place_for key more)) (cell ∷ more)) right
picked key cell more right true h below = refl
picked key cell more right false h below = below

pub children_are : (key : ℤ) (cells : List InnerCell) (right : ℕ) → children_from key cells right ≡ all_children (drop (place_for key cells) cells) right
children_are key [] right = refl
children_are key (cell ∷ more) right = picked key cell more right (int_le key cell.rowid) refl (children_are key more right)
